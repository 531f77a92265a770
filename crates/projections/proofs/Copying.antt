-- The loop that copies kept items. Assumes nothing.
use mathlib.Core.Path.{◌≡◌, sym, ap, subst, ◌∙◌}
use mathlib.Core.List.{List, [], ◌∷◌, ◌++◌, append_assoc, append-nil}
use Prim.Native.Nat.{ℕ, ◌+◌, ◌*◌, ◌^◌, ◌<◌, ◌≤◌}
use native.Mathlib.Omega.{arith}
use lib.ListN.{length}
use Rattle.cpl.specs.Exprs.{expr_tags}
use Rattle.cpl.specs.Plan.{Item, item_expr}
use Rattle.cpl.specs.Tests.{sum_of}
use Rattle.required_indices.specs.Request.{IsNext, request_mask, set_of}
use Rattle.required_indices.specs.declared.RequiredIndices.{RequiredIndices}
use Rattle.std.proofs.Common.{Option, Some, None}
use Rattle.arena.specs.Rows.{item_at}
use Rattle.arena.proofs.Kept.{kept_trans}
use Rattle.arena.proofs.Laws.{wf-fits}
use Rattle.arena.proofs.Same.{items-length}
use Rattle.arena_build.specs.Lists.{ItemRefused, Listing, ListRefused, Placed, nodes_of}
use Rattle.arena_build.proofs.Items.{listing-more, listing_none}
use Rattle.tree.proofs.Exprs.{tags-pos}
use Rattle.projections.specs.Lists.{Copies, Room, kept_items}
use Rattle.projections.proofs.Chosen.{chosen, chosen-end, chosen-items, chosen-next, found}

nodes-within : (xs : List Item) (x : Item) (ys : List Item) → nodes_of xs + expr_tags (item_expr x) ≤ nodes_of (xs ++ (x ∷ ys))
unfolding nodes_of sum_of
nodes-within [] x ys = omega arith
nodes-within (y ∷ xs) x ys = omega (arith, nodes-within xs x ys)

-- the items that are done, and those that are left
pub record Copying (items cells : List ℕ) (first count : ℕ) (kept : RequiredIndices) (row : ℕ) (rows dst : List ℕ) (used from n more : ℕ) (rows' dst' : List ℕ) : Type 0 where
  pub upto : from ≤ count
  pub done : List Item
  pub listing : Listing done row n rows dst used more rows' dst'
  pub left : done ++ chosen (item_at items cells) first from (request_mask count kept) ≡ kept_items items cells first count kept
  pub behind : row + n ≤ more

module _ (items cells : List ℕ) (first count : ℕ) (kept : RequiredIndices) (h : set_of kept < 2 ^ count) (row : ℕ) (rows dst : List ℕ) (used : ℕ) (o : Room rows dst row used) where
  pub copying_none : Copying items cells first count kept row rows dst used 0 0 used rows dst
  copying_none = record {
    upto = omega arith;
    done = [];
    listing = listing_none row rows dst used (omega (arith, wf-fits dst used o.wf, o.behind, o.rows_fit)) o.wf;
    left = chosen-items items cells first count kept h;
    behind = omega (arith, o.behind);
  }

  module _ {from n more : ℕ} {rows' dst' : List ℕ} (p : Copying items cells first count kept row rows dst used from n more rows' dst') where
    -- there is a row for the next item
    pub copying_room : (row + n) * 4 + 3 < length rows'
    copying_room = omega (arith, p.behind, wf-fits dst' more p.listing.wf, o.rows_fit, p.listing.kept.long, p.listing.rows_kept.long)

    module _ (out : Option ℕ) (g : IsNext (set_of kept) from out) where
      pub copying_all : out ≡ None → Copies (kept_items items cells first count kept) row n rows dst used more rows' dst'
      copying_all e =
          let all : p.done ≡ kept_items items cells first count kept =
          sym (append-nil p.done) ∙ sym (ap (p.done ++◌) (chosen-end (item_at items cells) first count kept h from out g e)) ∙ p.left in
          record {
            listing = subst (λ (js : List Item). Listing js row n rows dst used more rows' dst') all p.listing;
            long = sym (items-length rows' dst' row n) ∙ ap length (p.listing.means ∙ all);
            behind = p.behind;
          }

      module _ (i : ℕ) (e : out ≡ Some i) where
        abbrev it : Item
        it = item_at items cells (first + i)

        splits : p.done ++ (it ∷ chosen (item_at items cells) first (i + 1) (request_mask count kept)) ≡ kept_items items cells first count kept
        splits = sym (ap (p.done ++◌) (chosen-next (item_at items cells) first count kept h from out g i e)) ∙ p.left

        pub copying_more : {node more' : ℕ} {rows'' dst'' : List ℕ} → Placed it (row + n) rows' dst' more node more' rows'' dst''
            → Copying items cells first count kept row rows dst used (i + 1) (n + 1) more' rows'' dst''
        copying_more q = record {
          upto = omega (arith, found count (set_of kept) h from out g i e);
          done = p.done ++ (it ∷ []);
          listing = listing-more p.listing q;
          left = append_assoc p.done (it ∷ []) _ ∙ splits;
          behind = omega (arith, p.behind, q.made.grown, tags-pos (item_expr it));
        }

        pub copying_full : {rows'' dst'' : List ℕ} → ItemRefused it rows' dst' more rows'' dst'' → ListRefused (kept_items items cells first count kept) row rows dst used rows'' dst''
        copying_full q = record {
          kept = kept_trans (omega (arith, p.listing.grown)) p.listing.kept q.refused.kept;
          rows_kept = rw q.same p.listing.rows_kept;
          tight = omega (arith, q.refused.tight, p.listing.kept.long, p.listing.grown, nodes-within p.done it (chosen (item_at items cells) first (i + 1) (request_mask count kept)), ap nodes_of splits);
        }
