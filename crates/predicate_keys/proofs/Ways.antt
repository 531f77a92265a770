-- The ways through the two entries: a law for each. Assumes nothing.
use mathlib.Core.Path.{◌≡◌, refl, sym, ap, subst, ◌∙◌}
use mathlib.Core.List.{List, []}
use mathlib.Core.Option.{Option, none, some}
use Prim.Native.Nat.{ℕ, ◌+◌, ◌*◌, ◌-◌, ◌<◌, ◌≤◌}
use native.Mathlib.Omega.{arith}
use lib.ListN.{length}
use Rattle.cpl.specs.AreBytes.{AreBytes}
use Rattle.cpl.specs.Exprs.{expr_tags, on_tags}
use Rattle.cpl.specs.Plan.{Expr, On}
use Rattle.cpl.specs.Read.{bad, ok}
use Rattle.cpl.specs.Tests.{sum_of}
use Rattle.rules.specs.Answer.{written}
use Rattle.arena.specs.Cells.{Wf, expr_at}
use Rattle.arena.proofs.Kept.{kept_expr}
use Rattle.arena.proofs.Laws.{wf_less}
use Rattle.tree.proofs.Exprs.{tags-pos}
use Rattle.reader_fields.specs.declared.Spot.{Spot}
use Rattle.writer_parts.specs.Wrote.{Countable}
use Rattle.join_keys.specs.Keys.{JoinKeySet, insert_all}
use Rattle.join_keys.specs.Extract.{extract_possible_join_keys, keys_of}
use Rattle.join_keys.specs.Flat.{equalities}
use Rattle.join_keys.specs.Remove.{remove_join_expressions}
use Rattle.join_keys.specs.Entries.{answered, join_keys, join_keys_answer, keys_bytes, left_bytes, read_keys, read_predicate, without_keys, without_keys_answer}
use Rattle.join_keys.specs.Promise.{KeysPromise, LeftPromise}
use Rattle.join_keys.proofs.Flat.{equality_tags}
use Rattle.join_keys.proofs.Promises.{keys_promise, left_promise}
use Rattle.join_keys.proofs.Sets.{extracted-few, extracted-tags, keys_short, left_shorter}
use Rattle.join_keys.proofs.Sets as sets
use Rattle.join_key_set.specs.Pairs.{KeysIn, keys_at}
use Rattle.join_key_set.specs.Answers.{Grown, LeavesNode, joints}
use Rattle.join_key_set.specs.declared.JoinKeySet as code
use Rattle.join_key_set.proofs.Laws.{keys_length}
use Rattle.join_key_set.proofs.Remove.{joint_tags}
use Rattle.std.specs.Prelude as std
use Rattle.std.specs.Prelude.{Some, None}
use Rattle.predicate_reader.specs.Arguments.{TookKeys, TookPredicate}
use Rattle.answers.specs.Answers.{AnswerIs}
use Rattle.answers.specs.declared.Answer.{Answer}
use Rattle.answers.proofs.Ends.{Refuses, refuses}
use Rattle.predicate_writer.specs.Left.{LeftOk, left_of}
use Rattle.predicate_writer.proofs.Ends.{expr_short}
use Rattle.predicate_keys.specs.Given.{Given, without}

-- an empty set
pub keys_none : (cells pairs : List ℕ) → keys_at cells pairs 0 0 ≡ []
unfolding keys_at
keys_none cells pairs = refl

pub none_in : (n : ℕ) (pairs : List ℕ) → KeysIn n pairs 0 0
none_in n pairs = record { room = omega arith; left = λ k a b. absurd (omega arith); right = λ k a b. absurd (omega arith) }

-- ── a predicate that was read ───────────────────────────────────────────────────────────────

module _ {predicate cells : List ℕ} {s : Spot} (p : TookPredicate predicate cells s) where
  pub some-node : 0 < s.made
  some-node = omega (arith, p.made_is, tags-pos p.e)

  pub root-wf : Wf cells (s.made - 1 + 1)
  root-wf = let h = some-node in subst (Wf cells) (omega arith) p.wf

  -- "1,024 are enough"
  pub room_for_keys : (0 + 0 + equalities (expr_at cells (s.made - 1))) * 2 ≤ 2048
  room_for_keys = omega (arith, ap equalities p.root_is, equality_tags p.e, p.few)

-- ── the first entry ─────────────────────────────────────────────────────────────────────────

module _ {r : Answer} {out' : List ℕ} (predicate out : List ℕ) where
  pub keys_promised : AreBytes predicate → AnswerIs (join_keys_answer predicate out) r out' → r.code ≡ 0 → KeysPromise predicate (join_keys_answer predicate out)
  keys_promised b a z = keys_promise predicate out b (sym a.code_is ∙ z)

module _ {r : Answer} (predicate out : List ℕ) where
  pub unread : {code place : ℕ} → read_predicate predicate ≡ bad code place → Refuses r code place → AnswerIs (join_keys_answer predicate out) r out
  unfolding join_keys answered
  unread e h = rw e (refuses out h)

  keys_many : {e : Expr} {next t n : ℕ} → read_predicate predicate ≡ ok e next t n → keys_of e ≡ none → Refuses r 18 0 → AnswerIs (join_keys_answer predicate out) r out
  unfolding join_keys answered
  keys_many e x h = rw (e, x) (refuses out h)

keys-out : {r : Answer} {out' : List ℕ} (predicate out : List ℕ) {e : Expr} {next t n : ℕ} {keys : JoinKeySet} → read_predicate predicate ≡ ok e next t n → keys_of e ≡ some keys
    → AnswerIs (written (keys_bytes keys) out) r out' → AnswerIs (join_keys_answer predicate out) r out'
unfolding join_keys answered
keys-out predicate out e x h = rw (e, x) h

module _ {predicate cells : List ℕ} {s : Spot} (p : TookPredicate predicate cells s) (pairs : List ℕ) where
  -- what was extracted is what the predicate's keys are
  is-extracted : (o : Option JoinKeySet) → extract_possible_join_keys (expr_at cells (s.made - 1)) (keys_at cells pairs 0 0) ≡ o → keys_of p.e ≡ o
  is-extracted o e = rw (p.root_is, keys_none cells pairs) at e

  pub many_extracted : {r : Answer} (out : List ℕ) → extract_possible_join_keys (expr_at cells (s.made - 1)) (keys_at cells pairs 0 0) ≡ none → Refuses r 18 0 → AnswerIs (join_keys_answer predicate out) r out
  many_extracted out e h = keys_many predicate out p.reads (is-extracted none e) h

  module _ {k : code.JoinKeySet} {most : ℕ} {pairs' : List ℕ} (g : Grown (extract_possible_join_keys (expr_at cells (s.made - 1)) (keys_at cells pairs 0 0)) cells pairs 0 most k pairs') where
    keys_are : keys_of p.e ≡ some (keys_at cells pairs' 0 k.size)
    keys_are = is-extracted _ g.is

    pub few-keys : k.size ≤ 64
    few-keys = omega (arith, keys_length cells pairs' 0 k.size, extracted-few p.e _ keys_are)

    pub keys_countable : Countable (length (keys_bytes (keys_at cells pairs' 0 k.size))) (sum_of on_tags (keys_at cells pairs' 0 k.size))
    keys_countable = record {
      bytes_fit = omega (arith, keys_short p.e _ keys_are, expr_short p.e, p.few);
      tags_fit = omega (arith, extracted-tags p.e _ keys_are, p.few);
    }

    pub extracted : {r : Answer} {out' : List ℕ} (out : List ℕ) → AnswerIs (written (keys_bytes (keys_at cells pairs' 0 k.size)) out) r out' → AnswerIs (join_keys_answer predicate out) r out'
    extracted out h = keys-out predicate out p.reads keys_are h

-- ── the second entry ────────────────────────────────────────────────────────────────────────

module _ {r : Answer} {out' : List ℕ} (predicate keys out : List ℕ) where
  pub left_promised : AreBytes predicate → AreBytes keys → AnswerIs (without_keys_answer predicate keys out) r out' → r.code ≡ 0 → LeftPromise predicate keys (without_keys_answer predicate keys out)
  left_promised b d a z = left_promise predicate keys out b d (sym a.code_is ∙ z)

module _ {r : Answer} (predicate keys out : List ℕ) where
  pub left_unread : {code place : ℕ} → read_predicate predicate ≡ bad code place → Refuses r code place → AnswerIs (without_keys_answer predicate keys out) r out
  unfolding without_keys answered
  left_unread e h = rw e (refuses out h)

  pub keys_unread : {e : Expr} {next t n : ℕ} {code place : ℕ} → read_predicate predicate ≡ ok e next t n → read_keys keys ≡ bad code place → Refuses r code place → AnswerIs (without_keys_answer predicate keys out) r out
  unfolding without_keys answered
  keys_unread e x h = rw (e, x) (refuses out h)

both_read : {r : Answer} {out' : List ℕ} (predicate keys out : List ℕ) {e : Expr} {next t n : ℕ} {ps : List On} {next' t' n' : ℕ} → read_predicate predicate ≡ ok e next t n → read_keys keys ≡ ok ps next' t' n'
    → AnswerIs (without ps e out) r out' → AnswerIs (without_keys_answer predicate keys out) r out'
unfolding without_keys without
both_read predicate keys out e x h = rw (e, x) h

module _ {predicate keys cells cells' pairs' : List ℕ} {s t : Spot} (p : TookPredicate predicate cells s) (q : TookKeys keys s.made cells cells' pairs' t) where
  -- the predicate stands where it stood
  still : expr_at cells' (s.made - 1) ≡ p.e
  still = let h = some-node p in kept_expr s.made q.kept (s.made - 1) (omega arith) ∙ p.root_is

  pub ready : length cells' ≡ 30717 → Given cells' (s.made - 1) t.made pairs' t.row
  ready l = record {
    wf = q.wf;
    inside = let h = some-node p in omega (arith, q.grown);
    keys = q.inside;
    few = omega (arith, ap expr_tags still, p.few);
    room = omega (arith, q.few, p.few, p.made_is);
  }

  pub removed : {r : Answer} {out' : List ℕ} (out : List ℕ) → AnswerIs (without (keys_at cells' pairs' 0 t.row) (expr_at cells' (s.made - 1)) out) r out' → AnswerIs (without_keys_answer predicate keys out) r out'
  removed out h = both_read predicate keys out p.reads q.reads (rw (q.keys_are, still) at h)

-- ── keys and a predicate that were read ─────────────────────────────────────────────────────

module _ {cells pairs : List ℕ} {node used n : ℕ} (d : Given cells node used pairs n) where
  -- "2,047 nodes more are enough"
  pub room_for_left : (used + joints (expr_at cells node)) * 3 ≤ length cells
  room_for_left = omega (arith, joint_tags (expr_at cells node), d.few, d.room)

  pub many_given : {r : Answer} (out : List ℕ) → insert_all (keys_at cells pairs 0 n) (keys_at cells pairs 0 0) ≡ none → Refuses r 18 0
      → AnswerIs (without (keys_at cells pairs 0 n) (expr_at cells node) out) r out
  unfolding without answered
  many_given out e h = rw (rw (keys_none cells pairs) at e) (refuses out h)

  module _ {k : code.JoinKeySet} {most : ℕ} {pairs' : List ℕ} (g : Grown (insert_all (keys_at cells pairs 0 n) (keys_at cells pairs 0 0)) cells pairs 0 most k pairs') where
    abbrev left : Option Expr
    left = remove_join_expressions (keys_at cells pairs' k.start k.size) (expr_at cells node)

    -- what is left can be written
    pub left-ok : (l : std.Option ℕ) (a more : ℕ) (cells' : List ℕ) → LeavesNode left cells used more a l cells' → LeftOk cells' l
    left-ok None a more cells' v = tt
    left-ok (Some i) a more cells' v =
        let z : sets.Left (expr_at cells node) (some (expr_at cells' i)) = rw v.1.is at (left_shorter (keys_at cells pairs' k.start k.size) (expr_at cells node)) in (
          wf_less cells' (i + 1) a (omega (arith, v.0)) v.1.wf,
          record { bytes_fit = omega (arith, z.short, expr_short (expr_at cells node), d.few); tags_fit = omega (arith, z.tags, d.few) },
        )

    left_is : (l : std.Option ℕ) (a more : ℕ) (cells' : List ℕ) → LeavesNode left cells used more a l cells' → left ≡ left_of cells' l
    left_is None a more cells' v = v.is
    left_is (Some i) a more cells' v = v.1.is

    set_is : insert_all (keys_at cells pairs 0 n) [] ≡ some (keys_at cells pairs' k.start k.size)
    set_is = rw (keys_none cells pairs) at (g.is ∙ ap (λ (j : ℕ). some (keys_at cells pairs' j k.size)) (sym g.starts))

    pub left_out : {r : Answer} {out' : List ℕ} (out : List ℕ) (l : std.Option ℕ) (a more : ℕ) (cells' : List ℕ) → LeavesNode left cells used more a l cells' → AnswerIs (written (left_bytes (left_of cells' l)) out) r out'
        → AnswerIs (without (keys_at cells pairs 0 n) (expr_at cells node) out) r out'
    unfolding without answered
    left_out out l a more cells' v h = rw set_is (rw (← left_is l a more cells' v) at h)
