-- The ways that a reading can end: refused by the reader or at a node, or accepted. Assumes nothing.
use mathlib.Core.Path.{◌≡◌, refl, sym, ◌∙◌, ap, subst, subst⁻¹}
use mathlib.Core.List.{List, [], ◌∷◌}
use mathlib.Core.Option.{none, some}
use Prim.Native.Nat.{ℕ, suc, ◌*◌, ◌≤◌, ◌<◌}
use native.Mathlib.Nat.{mul-le-mul_left}
use native.Mathlib.Omega.{arith}
use lib.ListN.{length, get_or}
use Rattle.std.specs.Prelude.{Ok, Err}
use Rattle.cpl.specs.Lists.{a[], ◌a∷◌}
use Rattle.cpl.specs.AreBytes.{AreBytes}
use Rattle.cpl.specs.Limits as cpl-limits
use Rattle.cpl.specs.Limits.{max_nodes}
use Rattle.cpl.specs.Plan.{Plan, Catalogue}
use Rattle.cpl.specs.Exprs.{plan_nodes, plan_tags}
use Rattle.cpl.specs.Read.{ok, bad}
use Rattle.cpl.specs.ReadPlan.{read_catalogue, read_file}
use Rattle.cpl.specs.Fields.{fields_of}
use Rattle.cpl.specs.Accept.{fault, check}
use Rattle.cpl.specs.Writable.{FitCatalogue}
use Rattle.cpl.proofs.RoundTrip.{written_read}
use Rattle.rules.specs.Check.{accepted, faulty, finding_of, finding, numbers_of, check_file}
use Rattle.rules.specs.Success.{source_of}
use Rattle.versions.specs.Versions.{fields_room, rows_room, version_of}
use Rattle.versions.specs.declared.Version.{Version}
use Rattle.versions.proofs.Small.{small}
use Rattle.tree.specs.Tree.{Arrays, lent, plan_at, WfTree}
use Rattle.tree.proofs.Few.{room}
use Rattle.tree.proofs.Plans.{nodes-pos}
use Rattle.tree.proofs.Stored.{stored}
use Rattle.reader.specs.Plans.{TookFile}
use Rattle.key_sets.specs.Slots.{TableKeys}
use Rattle.parts.specs.Catalogue.{catalogue_at, NamesOk}
use Rattle.accept.specs.Verdicts.{Checked, FieldsStand, Judgeable}
use Rattle.refusals.specs.Codes.{code_of}
use Rattle.refusals.specs.declared.Refusal.{Refusal}
use Rattle.lookup.specs.Fields.{fields_at, first_at, width_at}
use Rattle.tree.specs.Rows.{one}
use Rattle.tree.proofs.Lists.{list_length}
use Rattle.acceptance.specs.Readings.{checked_of, CheckedIs, Marked, root_plan, PlanIn, ReadingIs}
use Rattle.acceptance.specs.declared.Reading.{Reading}
use Rattle.acceptance.proofs.Tables.{catalogue-same, names_ok}

-- ── refusals ────────────────────────────────────────────────────────────────────────────────

module _ (file cells rows nodes fields widths keys : List ℕ) (e : Refusal) where
  refused : finding (read_file file) ≡ faulty (code_of e.reason) e.place → ReadingIs file cells rows nodes fields widths keys (Err e)
  unfolding check_file numbers_of
  refused h = record {
    says = subst⁻¹ (λ f. CheckedIs (numbers_of f) (checked_of (Err e))) h (record { code_is = refl; place_is = refl; nodes_is = refl; fields_is = refl });
    plan = tt;
  }

  pub refuse_read : read_file file ≡ bad (code_of e.reason) e.place → ReadingIs file cells rows nodes fields widths keys (Err e)
  unfolding finding
  refuse_read h = refused (ap finding h)

  pub refuse-node : (C : Catalogue) (p : Plan) (next tags count : ℕ) → read_file file ≡ ok (source_of C p) next tags count
      → check C p 0 ≡ some (fault (code_of e.reason) e.place) → ReadingIs file cells rows nodes fields widths keys (Err e)
  unfolding finding
  refuse-node C p next tags count h f = refused (ap finding h ∙ ap (finding_of C p) f)

-- ── a file that was read ────────────────────────────────────────────────────────────────────

-- the plan that was read stands in the arrays, and its tables and their keys in theirs
pub record Got (file cells rows nodes names keys : List ℕ) (version : Version) (tables start count : ℕ) : Type 0 where
  pub C : Catalogue
  pub version_is : C.version ≡ version_of version
  pub tables_fit : FitCatalogue C
  pub tables_are : C.tables ≡ catalogue_at names tables
  pub tree : WfTree C (lent cells rows nodes) count
  pub whole : count ≡ plan_nodes (plan_at (lent cells rows nodes) 0)
  pub reads : read_file file ≡ ok (source_of C (plan_at (lent cells rows nodes) 0)) (length file) (plan_tags (plan_at (lent cells rows nodes) 0)) count
  pub starts_at : read_catalogue C.version file 5 0 0 ≡ ok C start 0 0
  pub named : NamesOk names tables
  pub marked : Marked file C.version
  pub keyed : TableKeys C keys

pub some-node : {file cells rows nodes names keys : List ℕ} {version : Version} {tables start count : ℕ} → Got file cells rows nodes names keys version tables start count → 0 < count
some-node {cells} {rows} {nodes} g = let e = g.whole in let h = nodes-pos (plan_at (lent cells rows nodes) 0) in omega arith

pub got : {file cells cells' rows rows' nodes nodes' names' keys' : List ℕ} {version : Version} {tables start count tags made : ℕ}
    → TookFile file cells cells' rows rows' nodes nodes' names' keys' version tables start count tags made → AreBytes file → 12288 ≤ length cells
    → ((v : cpl-limits.Version) → Marked file v → rows_room v ≤ length rows) → 1792 ≤ length nodes → 8208 ≤ length names' → Got file cells' rows' nodes' names' keys' version tables start count
got {file} {cells} {cells'} {rows} {rows'} {nodes} {nodes'} {names'} {keys'} {version} {tables} {start} {count} {tags} t b lc lr ln lm =
    let p = t.plan in
    let C = t.C in
    let w = written_read file b _ _ _ _ t.is in
    let fits = w.writable in
    let q = room C p fits.tables.version_is fits.nodes_fit fits.few_nodes fits.few_tags in
    let s = stored C p cells rows nodes fits.nodes_fit fits.few_nodes fits.few_tags (omega (arith, q.cells)) (omega (arith, q.rows, lr C.version t.marked)) (omega (arith, q.nodes)) t.holds.cells_are t.holds.rows_are t.holds.nodes_are in
    let n : count ≡ plan_nodes p = t.holds.count_is in
    record {
      C = C;
      version_is = t.version_is;
      tables_fit = fits.tables;
      tables_are = catalogue-same C names' tables t.tables_are fits.tables t.few_tables lm;
      tree = subst⁻¹ (WfTree _ (lent cells' rows' nodes')) n s.tree;
      whole = n ∙ ap plan_nodes (sym s.is);
      reads = t.is ∙ (ap (λ k. ok (source_of C p) (length file) k count) w.tags_read ∙ ap (λ x. ok (source_of C x) (length file) (plan_tags x) count) (sym s.is));
      starts_at = t.starts_at;
      named = names_ok C names' tables t.tables_are fits.tables t.few_tables lm;
      marked = t.marked;
      keyed = t.keys_are;
    }

-- what was read can be judged
pub judgeable : {file cells rows nodes names keys fields widths : List ℕ} {version : Version} {tables start count : ℕ} (g : Got file cells rows nodes names keys version tables start count)
    → ((v : cpl-limits.Version) → Marked file v → fields_room v ≤ length fields) → 512 ≤ length widths
    → Judgeable g.C (lent cells rows nodes) count names tables version fields widths 0 0
judgeable {count = count} g f w =
    let most = g.C.version.max_fields in
    let few : most * count ≤ most * max_nodes = mul-le-mul_left most g.tree.few in
    record {
      tree = g.tree;
      here = some-node g;
      named = g.named;
      tables_fit = g.tables_fit;
      tables_are = g.tables_are;
      version_is = g.version_is;
      room = omega (arith, ap (λ n. most * n) g.whole, few, f g.C.version g.marked);
      wide = omega arith;
    }

-- a file's elements are bytes
pub are_bytes : (file : List ℕ) → ((i : ℕ) → get_or file i 0 < 256) → AreBytes file
are_bytes [] h = a[]
are_bytes (b ∷ bs) h = h 0 a∷ are_bytes bs (λ i. h (suc i))

module _ {C : Catalogue} {a : Arrays} {s w s' w' : List ℕ} {next : ℕ} (k : Checked C a 0 0 s w s' w' (Ok next)) where
  pub no_faults : check C (plan_at a 0) 0 ≡ none
  no_faults = sym k.says

  pub all-stand : (count : ℕ) → count ≡ plan_nodes (plan_at a 0) → (j : ℕ) → j < count → FieldsStand C a s' w' j
  all-stand count e j h = ((k.done next refl).each j (omega arith) (omega arith)).stand

-- the root's stored width is the number of its fields
pub root-width : {C : Catalogue} {a : Arrays} {s w : List ℕ} → FieldsStand C a s w 0 → width_at w 0 ≡ length (fields_of C (plan_at a 0))
unfolding fields_at
root-width {w} f = sym (list_length _ one (first_at w 0) (width_at w 0)) ∙ ap length f.fields

-- ── an accepted plan ────────────────────────────────────────────────────────────────────────

module _ {file cells rows nodes fields widths keys : List ℕ} {version : Version} {start count : ℕ} (p : PlanIn file cells rows nodes fields widths keys version start count) where
  pub is-accepted : finding (read_file file) ≡ accepted p.C (root_plan cells rows nodes)
  unfolding finding
  is-accepted = ap finding p.reads ∙ ap (finding_of p.C (root_plan cells rows nodes)) p.fine

  root_stands : FieldsStand p.C (lent cells rows nodes) fields widths 0
  root_stands = p.stand 0 (omega (arith, p.whole, nodes-pos (root_plan cells rows nodes)))

  pub root-fields : width_at widths 0 ≡ length (fields_of p.C (root_plan cells rows nodes))
  root-fields = root-width root_stands

  pub few-fields : length (fields_of p.C (root_plan cells rows nodes)) ≤ p.C.version.max_fields
  few-fields = omega (arith, root-fields, root_stands.few)

-- the same under other names of the numbers
abbrev pub renumbered : {file cells rows nodes fields widths keys : List ℕ} {version version' : Version} {start start' count count' : ℕ}
    (p : PlanIn file cells rows nodes fields widths keys version start count) → version' ≡ version → start' ≡ start → count' ≡ count
    → PlanIn file cells rows nodes fields widths keys version' start' count'
renumbered {file} {cells} {rows} {nodes} p v s n = record {
  C = p.C;
  version_is = p.version_is ∙ ap version_of (sym v);
  tables = p.tables;
  tree = subst⁻¹ (WfTree p.C (lent cells rows nodes)) n p.tree;
  whole = n ∙ p.whole;
  reads = p.reads ∙ ap (ok (source_of p.C (root_plan cells rows nodes)) (length file) (plan_tags (root_plan cells rows nodes))) (sym n);
  starts_at = p.starts_at ∙ ap (λ k. ok p.C k 0 0) (sym s);
  fine = p.fine;
  keyed = p.keyed;
  stand = λ j h. p.stand j (subst (λ k. j < k) n h);
}

pub accept_ends : (file cells rows nodes names fields widths keys : List ℕ) (tables : ℕ) (r : Reading) (g : Got file cells rows nodes names keys r.version tables r.start r.nodes)
    → check g.C (root_plan cells rows nodes) 0 ≡ none
    → ((j : ℕ) → j < r.nodes → FieldsStand g.C (lent cells rows nodes) fields widths j)
    → r.fields ≡ width_at widths 0
    → ReadingIs file cells rows nodes fields widths keys (Ok r)
unfolding check_file numbers_of
accept_ends file cells rows nodes names fields widths keys tables r g fine stand e =
    let p : PlanIn file cells rows nodes fields widths keys r.version r.start r.nodes = record {
      C = g.C;
      version_is = g.version_is;
      tables = g.tables_fit;
      tree = g.tree;
      whole = g.whole;
      reads = g.reads;
      starts_at = g.starts_at;
      fine = fine;
      keyed = g.keyed;
      stand = stand;
    } in
    record {
      says = subst⁻¹ (λ f. CheckedIs (numbers_of f) (checked_of (Ok r))) (is-accepted p)
          (record { code_is = refl; place_is = refl; nodes_is = g.whole; fields_is = e ∙ root-fields p });
      plan = p;
    }

-- where nothing is refused
module _ {file cells rows nodes fields widths keys : List ℕ} {r : Reading} (x : ReadingIs file cells rows nodes fields widths keys (Ok r)) where
  pub width_is : r.fields ≡ length (fields_of x.plan.C (root_plan cells rows nodes))
  unfolding check_file numbers_of
  width_is = x.says.fields_is ∙ ap (λ f. (numbers_of f).fields) (is-accepted x.plan)

  pub few-asked : r.fields ≤ 512
  few-asked = omega (arith, width_is, few-fields x.plan, (small x.plan.tables.version_is).fields-small)
