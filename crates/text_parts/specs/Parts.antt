-- The text of one row, by what it holds, and the texts of several.
use Rattle.std.specs.Prelude.{List, ℕ}
use Rattle.plan_text.specs.Write.{Text, agg_text, expr_text, item_text, key_text, members_text, more_text, number, on_text, pair_text, win_text}
use Rattle.arena.specs.Cells.{expr_at}
use Rattle.arena.specs.Rows.{RowOk, item_at, pair_at, root_at}
use Rattle.tree.specs.Rows.{AggOk, AllAt, ExprOk, Inside, KeyOk, OnOk, WinOk, agg_at, key_at, list_at, number_at, on_at, one, win_at, win_size}
use Rattle.text_parts.specs.declared.Part.{Part}
use Rattle.text_parts.specs.declared.Part.TheVariants.{Agg, Column, Expr, Item, Key, On, Pair}

-- row i
abbrev pub part_text : Part → (rows cells : List ℕ) → ℕ → Text
part_text Item s cells i = item_text (item_at s cells i)
part_text Key s cells i = key_text (key_at s cells i)
part_text Agg s cells i = agg_text (agg_at s cells i)
part_text Expr s cells i = expr_text (expr_at cells (root_at s i))
part_text On s cells i = on_text (on_at s cells i)
part_text Pair s cells i = pair_text (pair_at s i)
part_text Column s cells i = number (number_at s i)

-- it lies in the array, and its roots are those of well formed expressions
abbrev pub PartOk : Part → (rows cells : List ℕ) → ℕ → Type 0
PartOk Item s cells i = RowOk s cells i
PartOk Key s cells i = KeyOk s cells i
PartOk Agg s cells i = AggOk s cells i
PartOk Expr s cells i = ExprOk s cells i
PartOk On s cells i = OnOk s cells i
PartOk Pair s cells i = Inside s i
PartOk Column s cells i = Inside s i

abbrev pub PartsOk : Part → (rows cells : List ℕ) (first n : ℕ) → Type 0
PartsOk p s cells first n = AllAt (PartOk p s cells) one first n

abbrev pub WinsOk : (rows cells : List ℕ) (first n : ℕ) → Type 0
WinsOk s cells first n = AllAt (WinOk s cells) (win_size s) first n

-- ── lists, by the texts of their members ────────────────────────────────────────────────────

-- what follows a member, where n things from row `first` on are left
abbrev pub more_at : (f : ℕ → Text) (size : ℕ → ℕ) (first n : ℕ) → Text
more_at f size first n = more_text (λ (t : Text). t) (list_at f size first n)

-- n things from row `first` on, behind the opening bracket
abbrev pub members_at : (f : ℕ → Text) (size : ℕ → ℕ) (first n : ℕ) → Text
members_at f size first n = members_text (λ (t : Text). t) (list_at f size first n)

abbrev pub win_text_at : (rows cells : List ℕ) → ℕ → Text
win_text_at s cells i = win_text (win_at s cells i)
