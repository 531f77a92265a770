-- The listing of a plan with every kind, and how it and short texts are read back: computed.
use mathlib.Core.Path.{◌≡◌, refl}
use mathlib.Core.List.{List, [], ◌∷◌}
use mathlib.Core.Option.{none, some}
use Prim.Native.Nat.{ℕ}
use Rattle.cpl.specs.Plan.{scan, leaf}
use Rattle.cpl.specs.Bytes.{bytes_of}
use Rattle.cpl.specs.Computes.{cpl_computes}
use Rattle.cpl.specs.Lists.{All, a[], ◌a∷◌}
use Rattle.plan_text.specs.Listing.{listing}
use Rattle.plan_text.specs.Answers.{refuses, yields, read_listing}
use Rattle.plan_text.specs.Computes.{writing_computes, answers_compute}
use Rattle.plan_text.specs.Samples.{sample_plan, sample_source, sample_text, sample_filters, filtered_text, all_filtered_text}
use Rattle.plan_text.specs.Readings.{two_tables, readings}

pub sample-listing : listing sample_plan ≡ sample_text
unfolding writing_computes
sample-listing = refl

pub sample_back : read_listing two_tables sample_text ≡ yields (bytes_of sample_source)
unfolding cpl_computes answers_compute
sample_back = refl

pub readings-right : All (λ r. read_listing two_tables r.text ≡ r.result) readings
unfolding cpl_computes answers_compute
readings-right = refl a∷ refl a∷ refl a∷ refl a∷ refl a∷ refl a∷ refl a∷ refl a∷ refl a∷ refl a∷ refl a∷ refl a∷ refl a∷ refl a∷ refl a∷ refl a∷ refl a∷ refl a∷ refl a∷ refl a∷ refl a∷ refl a∷ refl a∷ refl a∷ refl a∷ refl a∷ a[]

pub filtered_listing : listing (leaf (scan 0 1 (some (0 ∷ 1 ∷ [])) sample_filters)) ≡ filtered_text
unfolding writing_computes
filtered_listing = refl

pub all_filtered_listing : listing (leaf (scan 0 1 none sample_filters)) ≡ all_filtered_text
unfolding writing_computes
all_filtered_listing = refl

-- a catalogue of version 2 is none for a listing
pub second-version : (text : List ℕ) → read_listing (67 ∷ 80 ∷ 76 ∷ 2 ∷ 0 ∷ 0 ∷ 0 ∷ []) text ≡ refuses 2 0
unfolding cpl_computes answers_compute
second-version text = refl
