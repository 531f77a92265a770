-- What the arguments are read as, and where it stands in the lent arrays.
use Rattle.std.specs.Prelude.{◌≡◌, List, ℕ, ◌+◌, ◌-◌, ◌*◌, ◌≤◌, eqb, Result, Ok, Err}
use Rattle.cpl.specs.Limits.{max_tags}
use Rattle.cpl.specs.Plan.{Expr, On}
use Rattle.cpl.specs.Exprs.{expr_tags}
use Rattle.cpl.specs.Read.{ok, bad, pick}
use Rattle.arena.specs.Cells.{Wf, expr_at}
use Rattle.arena.specs.Kept.{Kept}
use Rattle.reader_fields.specs.declared.Spot.{Spot}
use Rattle.refusals.specs.Codes.{code_of}
use Rattle.refusals.specs.declared.Reason.TheVariants.{Tail}
use Rattle.refusals.specs.declared.Refusal.{Refusal}
use Rattle.join_keys.specs.Entries.{read_predicate, read_keys}
use Rattle.join_key_set.specs.Pairs.{KeysIn, keys_at}

-- what was read, where nothing stands after it: "one expression … and nothing after it"
unfoldable pub all_of : (size : ℕ) → Spot → Result Spot Refusal
all_of size s = pick (eqb s.at size) (Ok s) (Err (record { reason = Tail; place = s.at }))

-- the predicate e was read: its nodes are the first t .made of the cells, its root the last of them
pub record TookPredicate (bytes cells' : List ℕ) (t : Spot) : Type 0 where
  pub e : Expr
  pub next : ℕ
  pub reads : read_predicate bytes ≡ ok e next t.tags 0
  pub few : expr_tags e ≤ max_tags
  pub made_is : t.made ≡ expr_tags e
  pub root_is : expr_at cells' (t.made - 1) ≡ e
  pub wf : Wf cells' t.made

abbrev pub PredicateIs : (bytes cells' : List ℕ) → Result Spot Refusal → Type 0
PredicateIs bytes cells' (Ok t) = TookPredicate bytes cells' t
PredicateIs bytes cells' (Err e) = read_predicate bytes ≡ bad (code_of e.reason) e.place

-- the keys were read: t.row of them, whose nodes stand behind the first `made` and before t.made
pub record TookKeys (bytes : List ℕ) (made : ℕ) (cells cells' pairs' : List ℕ) (t : Spot) : Type 0 where
  pub keys : List On
  pub next : ℕ
  pub reads : read_keys bytes ≡ ok keys next t.tags 0
  pub keys_are : keys_at cells' pairs' 0 t.row ≡ keys
  pub inside : KeysIn t.made pairs' 0 t.row
  pub kept : Kept (made * 3) cells cells'
  pub grown : made ≤ t.made
  pub few : t.made ≤ made + max_tags
  pub wf : Wf cells' t.made

abbrev pub KeysAre : (bytes : List ℕ) (made : ℕ) (cells cells' pairs' : List ℕ) → Result Spot Refusal → Type 0
KeysAre bytes made cells cells' pairs' (Ok t) = TookKeys bytes made cells cells' pairs' t
KeysAre bytes made cells cells' pairs' (Err e) = read_keys bytes ≡ bad (code_of e.reason) e.place
