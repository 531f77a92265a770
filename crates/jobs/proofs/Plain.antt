-- Nodes whose input is asked as they are, with columns added, or for all: Filter, Sort, Limit, SubqueryAlias, Distinct. Assumes nothing.
use mathlib.Core.Path.{◌≡◌, refl, sym, ap, ap₂, subst, ◌∙◌}
use mathlib.Core.Bool.{Bool, true, false}
use mathlib.Core.List.{List, [], ◌∷◌, map}
use mathlib.Core.Option.{Option}
use Prim.Native.Nat.{ℕ, ◌-◌, ◌^◌}
use lib.ListN.{length}
use Rattle.cpl.specs.Fields.{requalify, unary_fields}
use Rattle.cpl.specs.Lists.{Fit}
use Rattle.cpl.specs.Plan.{Catalogue, Expr, Key, Pair, Unary, distinct, filter, key_expr, limit, sort, subquery_alias, unary}
use Rattle.cpl.proofs.Lists.{Fit-map, Fit_trans}
use Rattle.rules.specs.Mask.{Mask}
use Rattle.rules.specs.Mask as mask
use Rattle.rules.specs.Rules as rules
use Rattle.rules.specs.Rules.{plus, unary_job}
use Rattle.rules.proofs.Asked.{plus-fit}
use Rattle.required_indices.specs.Request.{Asks, Holds, flag_of, request_mask, set_of}
use Rattle.required_indices.specs.declared.RequiredIndices.{RequiredIndices}
use Rattle.required_indices.proofs.Methods.{all-asks, flag-asks}
use Rattle.arena.specs.Rows.{item_at, items_at}
use Rattle.tree.specs.Rows.{agg_at, aggs_at, one, win_at, win_size, wins_at}
use Rattle.lookup.specs.Fields.{field_at, row_at}
use Rattle.lookup.proofs.Lists.{list_length}
use Rattle.requests.specs.Asked.{Adds}
use Rattle.requests.proofs.Lists.{items-list}
use Rattle.result.specs.Result.{unary_part}
use Rattle.result.specs.Records.{UnarySet}
use Rattle.jobs.specs.Job.{InputIs, OneIs, OneJob, RestIs, Through}
use Rattle.jobs.specs.declared.Job.{Job}
use Rattle.jobs.specs.declared.Todo.{Todo}
use Rattle.jobs.specs.declared.Rest.{Rest}

-- a job with these parts
abbrev pub job : Todo → Rest → (ask second set kept : RequiredIndices) → Job
job t l q s m k = record { todo = t; rest = l; ask = q; second = s; set = m; kept = k }

-- a set over n fields is the mask that it asks for
pub asks-mask : {q : RequiredIndices} {S : Mask} {n : ℕ} → Asks q S → length S ≡ n → request_mask n q ≡ S
asks-mask {q} {S} a e = subst (λ n. request_mask n q ≡ S) e a.mask

-- ── as many as the numbers say ──────────────────────────────────────────────────────────────

pub row-long : (s : List ℕ) (start width : ℕ) → width ≡ length (row_at s start width)
row-long s start width = sym (list_length (field_at s) one start width)

pub items-long : (s cells : List ℕ) (f n : ℕ) → n ≡ length (items_at s cells f n)
items-long s cells f n = sym (ap length (items-list s cells f n) ∙ list_length (item_at s cells) one f n)

pub aggs_long : (s cells : List ℕ) (f n : ℕ) → n ≡ length (aggs_at s cells f n)
aggs_long s cells f n = sym (list_length (agg_at s cells) one f n)

pub wins_long : (s cells : List ℕ) (f n : ℕ) → n ≡ length (wins_at s cells f n)
wins_long s cells f n = sym (list_length (win_at s cells) (win_size s) f n)

-- ── plain nodes ─────────────────────────────────────────────────────────────────────────────

-- a node without a part that is taken at the request
abbrev Whole : Unary → Type 0
Whole h = (s : ℕ) → (unary_part s h ≡ h) × UnarySet s h

module _ (C : Catalogue) (h : Unary) (key : List ℕ) (fs : List Pair) (b : Bool) (R Q : Mask) {topped : Bool} {q : RequiredIndices} {j : Job} (t : Through q topped j) (w : Whole h)
    (e : unary_job C h key fs b R ≡ rules.ask (flag_of q) Q topped (unary h) (λ K. K)) (a : Asks q Q) (f : Fit Q fs) where
  input-is : InputIs C h key fs b R topped (unary (unary_part (set_of j.set) h)) j
  input-is = record {
    Q = Q;
    left = λ K. K;
    job = e ∙ ap₂ (λ x n. rules.ask (flag_of x) Q topped (unary n) (λ K. K)) (sym t.ask_is) (sym (w (set_of j.set)).0);
    asks = subst (λ x. Asks x Q) (sym t.ask_is) a;
    fit = f;
    set = (w (set_of j.set)).1;
    rest = subst (λ x. RestIs fs (λ K. K) j x) (sym t.rest_is) (λ K. refl);
  }

  through_is : OneIs C h key fs b R j j.todo
  through_is = subst (λ x. OneIs C h key fs b R j x) (sym t.todo_is) input-is

module _ {key : List ℕ} {fs : List Pair} {r s q : RequiredIndices} {j : Job} where
  -- a node that adds the columns of es
  adding : (h : Unary) (es : List Expr) → Whole h → ((C : Catalogue) (b : Bool) (R : Mask) → unary_job C h key fs b R ≡ rules.ask true (plus es fs R) true (unary h) (λ K. K))
      → ((R : Mask) → Fit R (unary_fields h fs) → Fit R fs) → Adds es fs r s → Holds q (set_of s) true → Through q true j → OneJob h key fs r j
  adding h es w e f d g t = record {
    is = λ C R p.
        through_is C h key fs (flag_of r) R (plus es fs R) t w (e C (flag_of r) R ∙ ap (λ x. rules.ask x (plus es fs R) true (unary h) (λ K. K)) (sym g.flag))
        (flag-asks (d.asks R (f R p.fit) p.asks) g) (plus-fit es (f R p.fit));
  }

  pub filter-one : {e : Expr} → Adds (e ∷ []) fs r s → Holds q (set_of s) true → Through q true j → OneJob (filter e) key fs r j
  unfolding unary_part unary_job unary_fields
  filter-one {e} = adding (filter e) (e ∷ []) (λ x. (refl, tt)) (λ C b R. refl) (λ R f. f)

  pub sort-one : (ks : List Key) (es : List Expr) → map key_expr ks ≡ es → Adds es fs r s → Holds q (set_of s) true → Through q true j → OneJob (sort ks) key fs r j
  unfolding unary_part unary_job unary_fields
  sort-one ks es e = adding (sort ks) es (λ x. (refl, tt)) (λ C b R. ap (λ x. rules.ask true (plus x fs R) true (unary (sort ks)) (λ K. K)) e) (λ R f. f)

module _ {key : List ℕ} {fs : List Pair} {r : RequiredIndices} {j : Job} where
  pub limit-one : {b : Bool} (s : ℕ) (n : Option ℕ) → b ≡ flag_of r → Through r b j → OneJob (limit s n) key fs r j
  unfolding unary_part unary_job unary_fields
  limit-one s n e t = record {
    is = λ C R p. through_is C (limit s n) key fs (flag_of r) R R t (λ x. (refl, tt)) (ap (λ x. rules.ask (flag_of r) R x (unary (limit s n)) (λ K. K)) (sym e)) p.asks p.fit;
  }

  pub alias-one : {q : RequiredIndices} (x : ℕ) → Holds q (set_of r) true → Through q true j → OneJob (subquery_alias x) key fs r j
  unfolding unary_part unary_job unary_fields
  alias-one x g t = record {
    is = λ C R p.
        through_is C (subquery_alias x) key fs (flag_of r) R R t (λ s. (refl, tt)) (ap (λ b. rules.ask b R true (unary (subquery_alias x)) (λ K. K)) (sym g.flag))
        (flag-asks p.asks g) (Fit_trans p.fit (Fit-map (requalify x) fs));
  }

  pub distinct-one : {q : RequiredIndices} (width : ℕ) → width ≡ length fs → Holds q (2 ^ width - 1) false → Through q false j → OneJob distinct key fs r j
  unfolding unary_part unary_job unary_fields mask.ones
  distinct-one width e g t = record {
    is = λ C R p.
        through_is C distinct key fs (flag_of r) R (mask.ones fs) t (λ s. (refl, tt)) (ap (λ b. rules.ask b (mask.ones fs) false (unary distinct) (λ K. K)) (sym g.flag))
        (all-asks fs width e g) (Fit-map (λ x. true) fs);
  }
