-- What the entries promise of their answers, and what they ask of lent arrays.
use Rattle.std.specs.Prelude.{◌≡◌, true, false, List, [], ℕ, length, eqb, Result, Ok, Err}
use Rattle.cpl.specs.Codes.{SETTING}
use Rattle.cpl.specs.Limits.{version2}
use Rattle.cpl.specs.ReadPlan.{mark_bytes, starts}
use Rattle.rules.specs.Answer as rules
use Rattle.rules.specs.Answer.{settings_ok}
use Rattle.meaning.specs.Promise.{KeyedPromise, Promise}
use Rattle.refusals.specs.Codes.{code_of}
use Rattle.refusals.specs.declared.Refusal.{Refusal}
use Rattle.optimize_projections.specs.declared.Settings.{Settings}
use Rattle.acceptance.specs.Readings.{Room}

-- "Narrow": the rows are kept, of the very bytes. Of any file, where the tables keep their keys; of a file that declares no key, and so of every
-- version 1 file, whatever the tables hold.
pub record Narrows (mask : ℕ) (file : List ℕ) (request : ℕ → List ℕ) (a : rules.Answer) : Type 0 where
  pub keyed : KeyedPromise mask file request a
  pub plain : keyed.plans.catalogue.keys ≡ [] → Promise mask file request a
  pub version1 : starts (mark_bytes version2) file ≡ false → Promise mask file request a

-- in house mode, of an answer of code 0
abbrev pub Promised : (mode mask : ℕ) (file : List ℕ) (request : ℕ → List ℕ) (out : List ℕ) (code : ℕ) → Type 0
Promised mode mask file request out code = mode ≡ 1 → code ≡ 0 → Narrows mask file request (rules.reply mode mask file request out)

-- rows and fields, whose lengths go by the file's version, are long enough for it beside arrays of the other lengths
abbrev pub RoomWith : (file rows fields : List ℕ) → Type 0
RoomWith file rows fields =
    (cells nodes names widths keys : List ℕ) → length cells ≡ 12288 → length nodes ≡ 1792 → length names ≡ 8208 → length widths ≡ 512 → length keys ≡ 2448
    → Room file cells rows nodes names fields widths keys

-- "SETTING: mode above 1 (0 crate, 1 house) or push mask above 4,095"; else the settings are those of the two numbers
abbrev pub SettingsAre : (mode mask : ℕ) → Result Settings Refusal → Type 0
SettingsAre mode mask (Ok s) = (settings_ok mode mask ≡ true) × (s.house ≡ eqb mode 1) × (s.mask ≡ mask)
SettingsAre mode mask (Err e) = (settings_ok mode mask ≡ false) × (code_of e.reason ≡ SETTING) × (e.place ≡ 0)
