-- "A larger request never reads less" (document 02, request 10) of the very bytes: what two answers of code 0 on one file promise, where every index
-- of the first request is in the second.
use Rattle.std.specs.Prelude.{◌≡◌, List, ℕ, T, eqb}
use Rattle.cpl.specs.Tests.{any_b}
use Rattle.rules.specs.Answer.{Answer, merge_of}
use Rattle.rules.specs.Success.{Success}
use Rattle.rules.specs.Scans.{Numbered, scans_under, NoLess, Followed}

-- every index of `is` is in `js`
abbrev pub Contains : (js is : List ℕ) → Type 0
Contains js is = (i : ℕ) → T (any_b (eqb i) is) → T (any_b (eqb i) js)

-- the scans that an answer of code 0 left, by their node numbers in the file's plan
abbrev pub scans_left : {mode mask : ℕ} {file : List ℕ} {request : ℕ → List ℕ} {a : Answer} → Success mode mask file request a → List Numbered
scans_left {mode} {mask} s = scans_under (merge_of mode mask) s.catalogue s.old s.R

-- they are the scans of the plan as which its bytes read
abbrev pub FollowedIn : {mode mask : ℕ} {file : List ℕ} {request : ℕ → List ℕ} {a : Answer} → Success mode mask file request a → Type 0
FollowedIn s = Followed s.catalogue s.old s.walked.plan (scans_left s)

pub record Larger (mode mask : ℕ) (file : List ℕ) (request request' : ℕ → List ℕ) (a a' : Answer) : Type 0 where
  -- the file reads as a plan, the bytes of either answer as a rewritten one
  pub first : Success mode mask file request a
  pub second : Success mode mask file request' a'
  pub one_catalogue : second.catalogue ≡ first.catalogue
  pub one_plan : second.old ≡ first.old
  pub followed : FollowedIn first × FollowedIn second
  pub no_less : NoLess first.catalogue (scans_left first) (scans_left second)
