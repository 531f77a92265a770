-- `jobs::job_at` meets its contract: what is known at the node is a law of `Places`, and so is what each kind's job says of it. Assumes nothing.
use mathlib.Core.Path.{refl}
use Rattle.jobs.proofs.Places.{empty_at, empty-few, leaf_at, left-row, one_at, one_below, one_key, one_posed, parts, right-row, two_at, two_posed}
use Rattle.jobs.proofs.job_at.Goals as goal

pub filter_job-requires : goal.filter_job-requires
filter_job-requires c = record { wf = parts c.requires c.in-Filter.is; below = one_below c.requires c.in-Filter.is refl c.first_at.ensures c.width_at.ensures }

pub sort_job-requires : goal.sort_job-requires
sort_job-requires c = record { each_ok = parts c.requires c.in-Sort.is; below = one_below c.requires c.in-Sort.is refl c.first_at.ensures c.width_at.ensures }

pub aggregate_job-requires : goal.aggregate_job-requires
aggregate_job-requires c = record { rows_ok = (parts c.requires c.in-Aggregate.is).0; each_ok = (parts c.requires c.in-Aggregate.is).1; below = one_below c.requires c.in-Aggregate.is refl c.first_at.ensures c.width_at.ensures; posed = (c.requires.R, one_posed c.requires c.in-Aggregate.is refl c.first_at.ensures c.width_at.ensures) }

pub window_job-requires : goal.window_job-requires
window_job-requires c = record { all_at = parts c.requires c.in-Window.is; below = one_below c.requires c.in-Window.is refl c.first_at.ensures c.width_at.ensures }

pub distinct_job-requires : goal.distinct_job-requires
distinct_job-requires c =
    one_below c.requires c.in-Distinct.is refl c.first_at.ensures c.width_at.ensures

pub join_job-requires : goal.join_job-requires
join_job-requires c = record { each_ok = (parts c.requires c.in-Join.is).0; wf = (parts c.requires c.in-Join.is).1; below = left-row c.requires c.in-Join.is refl refl c.first_at.ensures c.width_at.ensures c.first_at-in-Join.ensures c.width_at-in-Join.ensures; below_2 = right-row c.requires c.in-Join.is refl refl c.first_at.ensures c.width_at.ensures c.first_at-in-Join.ensures c.width_at-in-Join.ensures; posed_two = (c.requires.R, two_posed c.requires c.in-Join.is refl refl c.first_at.ensures c.width_at.ensures c.first_at-in-Join.ensures c.width_at-in-Join.ensures) }

pub empty_job-requires : goal.empty_job-requires
empty_job-requires c =
    empty-few c.requires c.in-Empty.is

pub returns-in-Filter : goal.returns-in-Filter
returns-in-Filter c =
    record { is = λ q. one_at q c.in-Filter.is refl c.first_at.ensures c.width_at.ensures tt (c.filter_job.ensures _) }

pub returns-in-Sort : goal.returns-in-Sort
returns-in-Sort c =
    record { is = λ q. one_at q c.in-Sort.is refl c.first_at.ensures c.width_at.ensures tt (c.sort_job.ensures _) }

pub returns-in-Limit : goal.returns-in-Limit
returns-in-Limit c =
    record { is = λ q. one_at q c.in-Limit.is refl c.first_at.ensures c.width_at.ensures tt (c.limit_job.ensures _ _ _ _) }

pub returns-in-Aggregate : goal.returns-in-Aggregate
returns-in-Aggregate c =
    record {
      is = λ q.
          one_at q c.in-Aggregate.is refl c.first_at.ensures c.width_at.ensures tt (c.aggregate_job.ensures _ (one_key q c.in-Aggregate.is refl c.node_slot-slot.ensures c.key_at-key.ensures));
    }

pub returns-in-Window : goal.returns-in-Window
returns-in-Window c =
    record { is = λ q. one_at q c.in-Window.is refl c.first_at.ensures c.width_at.ensures tt (c.window_job.ensures _) }

pub returns-in-SubqueryAlias : goal.returns-in-SubqueryAlias
returns-in-SubqueryAlias c =
    record { is = λ q. one_at q c.in-SubqueryAlias.is refl c.first_at.ensures c.width_at.ensures tt (c.alias_job.ensures _ _ _) }

pub returns-in-Union : goal.returns-in-Union
returns-in-Union c =
    record { is = λ q. two_at q c.in-Union.is refl refl c.first_at.ensures c.width_at.ensures refl refl (c.union_job.ensures _ _) }

pub returns-in-Distinct : goal.returns-in-Distinct
returns-in-Distinct c =
    record { is = λ q. one_at q c.in-Distinct.is refl c.first_at.ensures c.width_at.ensures tt (c.distinct_job.ensures _) }

pub returns-in-Join : goal.returns-in-Join
returns-in-Join c =
    record { is = λ q. two_at q c.in-Join.is refl refl c.first_at.ensures c.width_at.ensures c.first_at-in-Join.ensures c.width_at-in-Join.ensures c.join_job.ensures }

pub returns-in-Scan : goal.returns-in-Scan
returns-in-Scan c =
    record { is = λ q. leaf_at q c.in-Scan.is refl (c.scan_job.ensures _ _ _ _) }

pub returns-in-Empty : goal.returns-in-Empty
returns-in-Empty c =
    record { is = λ q. empty_at q c.in-Empty.is c.empty_job.ensures }
