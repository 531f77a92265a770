-- The whole of document 01's "Numbers returned" as one function: of settings, file, request and output buffer, the code, length and place and the
-- buffer after. "Order: 1; 2; 3 to 6 …; 8, 9, 10, 7 …; 11; 12; 13", with 17 between 8 and 9.
use Rattle.std.specs.Prelude.{List, ◌++◌, Bool, ◌&&◌, ◌||◌, ℕ, eqb, ltb, leb}
use Rattle.std.proofs.Math.Option.{Option, none, some}
use lib.ListN.{length, drop}
use Rattle.cpl.specs.Tests.{iota}
use Rattle.cpl.specs.Limits.{max_nodes, max_tags, max_mask}
use Rattle.cpl.specs.Codes.{SETTING, REQUEST, LARGE, ROOM}
use Rattle.cpl.specs.Plan.{Plan, Catalogue, Source}
use Rattle.cpl.specs.Exprs.{plan_nodes, plan_tags}
use Rattle.cpl.specs.Read.{Res, ok, bad, pick}
use Rattle.cpl.specs.ReadPlan.{read_file}
use Rattle.cpl.specs.Bytes.{bytes_of}
use Rattle.cpl.specs.Fields.{fields_of}
use Rattle.cpl.specs.Accept.{Fault, check}
use Rattle.rules.specs.Check.{Finding, accepted, faulty, finding_of}
use Rattle.rules.specs.Request.{request_fault, mask_of}
use Rattle.rules.specs.Merge.{Merge, merge_step}
use Rattle.rules.specs.Rewrite.{Walked, rewrite}

-- a refusal, or the narrowed source
pub data Verdict : Type 0 where
  refused : (code place : ℕ) → Verdict
  narrowed : Source → Verdict

-- "SETTING: mode above 1 (0 crate, 1 house) or push mask above 4,095"
unfoldable pub settings_ok : (mode mask : ℕ) → Bool
settings_ok mode mask = leb mode 1 && leb mask max_mask

unfoldable pub merge_of : (mode mask : ℕ) → Merge
merge_of mode mask = merge_step (eqb mode 1) mask

-- "LARGE: a merge step's list is over 4,096 tags, or the result breaks the node or tag limit"
unfoldable pub large : Walked → Bool
large w = w.overlong || (ltb max_nodes (plan_nodes w.plan) || ltb max_tags (plan_tags w.plan))

unfoldable pub finish : Catalogue → Walked → Verdict
finish C w = pick (large w) (refused LARGE 0) (narrowed (record { catalogue = C; plan = w.plan }))

-- an accepted plan, with the request
unfoldable pub requested : Merge → Catalogue → Plan → List ℕ → Option ℕ → Verdict
requested M C p request none = finish C (rewrite M C p (mask_of (length (fields_of C p)) request))
requested M C p request (some position) = refused REQUEST position

-- "the rewriting one, which calls the first after the setting and passes its code on". The request may be made from the root's field count.
abbrev pub passed_on : Merge → (ℕ → List ℕ) → Finding → Verdict
passed_on M request (accepted C p) = let width = length (fields_of C p) in requested M C p (request width) (request_fault width (request width))
passed_on M request (faulty code place) = refused code place

-- a plan that was read
unfoldable pub checked : Merge → Catalogue → Plan → (ℕ → List ℕ) → Option Fault → Verdict
checked M C p request f = passed_on M request (finding_of C p f)

unfoldable pub judged : Merge → (ℕ → List ℕ) → Res Source → Verdict
judged M request (ok s next tags nodes) = checked M s.catalogue s.plan request (check s.catalogue s.plan 0)
judged M request (bad code place) = refused code place

unfoldable pub verdict : (mode mask : ℕ) (file : List ℕ) (request : ℕ → List ℕ) → Verdict
verdict mode mask file request = let v = judged (merge_of mode mask) request (read_file file) in pick (settings_ok mode mask) v (refused SETTING 0)

-- "Every call returns a code, a length and a place"; and the output buffer as the call leaves it
pub record Answer : Type 0 where
  pub code : ℕ
  pub length : ℕ
  pub place : ℕ
  pub out : List ℕ

-- "A refusal has length 0 and changes no byte of the output."
unfoldable pub refusal : (code place : ℕ) (out : List ℕ) → Answer
refusal code place out = record { code = code; length = 0; place = place; out = out }

-- "success is code 0 with the bytes written and place 0"; "On success the bytes past the length stay."
unfoldable pub success : (bytes out : List ℕ) → Answer
success bytes out = record { code = 0; length = lib.ListN.length bytes; place = 0; out = bytes ++ drop (lib.ListN.length bytes) out }

-- "ROOM: output shorter than the result; length needed"
unfoldable pub written : (bytes out : List ℕ) → Answer
written bytes out = pick (leb (lib.ListN.length bytes) (lib.ListN.length out)) (success bytes out) (refusal ROOM (lib.ListN.length bytes) out)

unfoldable pub deliver : Verdict → (out : List ℕ) → Answer
deliver (refused code place) out = refusal code place out
deliver (narrowed s) out = written (bytes_of s) out

-- the answer to a request that may be made from the root's field count
unfoldable pub reply : (mode mask : ℕ) (file : List ℕ) (request : ℕ → List ℕ) (out : List ℕ) → Answer
reply mode mask file request out = deliver (verdict mode mask file request) out

-- the answer to a request of these fields, and to one of all fields
abbrev pub answer : (mode mask : ℕ) (file request out : List ℕ) → Answer
answer mode mask file request out = reply mode mask file (λ width. request) out

abbrev pub answer_all : (mode mask : ℕ) (file out : List ℕ) → Answer
answer_all mode mask file out = reply mode mask file (λ width. iota 0 width) out
