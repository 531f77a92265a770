-- The parts of a node are read as they are written. Assumes nothing.
use Prim.Native.Nat.{ℕ, zero, suc, ◌+◌, ◌*◌, ◌/◌, ◌%◌, ◌≤◌, ◌<◌, ◌^◌}
use mathlib.Core.Path.{◌≡◌, refl, sym, ap, ap₂}
use mathlib.Core.Bool.{Bool, true, false, not, ◌&&◌, true≢false}
use mathlib.Core.List.{[], ◌∷◌, ◌++◌, List}
use native.Mathlib.Omega.{arith}
use lib.Dec.{eqb, eqb-suc-zero}
use borrow.Author.Tests.{eqb-true, eqb-false, ne_eqb}
use mathlib.Core.Option.{Option, none, some}
use Rattle.cpl.specs.Limits.{Version, max_keys, no_fetch}
use Rattle.cpl.specs.Tests.{sum_of}
use Rattle.cpl.specs.Plan.{Fn, Expr, Item, bare, named, Key, key, Call, rows, over, Agg, agg, Win, win, On, on, key_expr}
use Rattle.cpl.specs.Codes.{VALUE, alias_tag, fn_number, fn_of, bit}
use Rattle.cpl.specs.Exprs.{call_exprs, agg_exprs, expr_tags, item_tags, key_tags, agg_tags, win_tags, on_tags, cond_exprs}
use Rattle.cpl.specs.Read.{Reader, ◌>>=◌, refuse, pick, tag, give, index, below, any, counted}
use Rattle.cpl.specs.ReadExpr.{read_alias, read_bare, read_item, read_key, read_call, read_agg, read_win, read_on}
use Rattle.cpl.specs.Bytes.{counted_bytes, pair_bytes, expr_bytes, item_bytes, key_bytes, call_number, call_bytes, agg_bytes, win_bytes, on_bytes, bytes, cond_bytes, columns_bytes, fetch_number}
use Rattle.cpl.specs.Writable.{FitItem, FitKey, FitCall, FitAgg, FitWin, FitOn, FitList, FitCond, FitFetch, FitColumns}
use Rattle.cpl.specs.ReadPlan.{fetch_of, read_cond, read_columns}
use Rattle.cpl.proofs.Versions.{Sound}
use Rattle.cpl.proofs.Codec.{Reads, reads-give, reads_then, reads-map, reads_here, reads_no, reads_as, only_give, only_refuse, only_then, only_map, only_here, only_pick, Codec, nought, codec_as}
use Rattle.cpl.proofs.FieldTrip.{byte_codec, tag_codec, list_codec, index_codec, plain_codec}
use Rattle.cpl.proofs.CodeTrip.{fn_number_lem, flags-number, number_fn, number-flags}
use Rattle.cpl.proofs.ExprTrip.{pair_codec, expr_codec}

-- ── items, keys, calls ──────────────────────────────────────────────────────────────────────

pub item_codec : Codec FitItem item_bytes item_tags nought read_item
unfolding read_item read_bare read_alias FitItem item_bytes item_tags
item_codec =
    record {
      reads = λ i h. reads_here _ λ p. reads p i h;
      only =
          only_here _ λ p.
          only_then _ tag_codec λ t h.
          only_pick (eqb t 0) (λ z. only_map bare pair_codec λ c g. (g, ap (λ (x : ℕ). x ∷ pair_bytes c) (eqb-true t 0 z), refl, refl))
          (λ z.
          only_pick (eqb t alias_tag)
          (λ o. only_then _ pair_codec λ c g. only_map (named c) expr_codec λ e f. ((g, f), ap (λ (x : ℕ). x ∷ (pair_bytes c ++ expr_bytes e)) (eqb-true t alias_tag o), omega arith, refl))
          (λ o. only_refuse));
    }
  where
    reads : (p : ℕ) (i : Item) → FitItem i → Reads (tag >>= λ t. pick (eqb t 0) read_bare (pick (eqb t alias_tag) read_alias (refuse VALUE p))) i (item_bytes i) (item_tags i) 0
    reads p (bare c) h = reads_then _ (tag_codec.reads 0 (omega arith)) (reads-map bare (pair_codec.reads c h))
    reads p (named c e) h =
        reads_as refl refl (omega arith) refl (reads_then _ (tag_codec.reads alias_tag (omega arith)) (reads_then _ (pair_codec.reads c h.0) (reads-map (named c) (expr_codec.reads e h.1))))

pub key_codec : Codec FitKey key_bytes key_tags nought read_key
unfolding read_key FitKey key_bytes key_tags key_expr
key_codec =
    record {
      reads = reads;
      only =
          only_then _ (byte_codec 4 (omega arith)) λ x h.
          only_map (λ (e : Expr). key (eqb (x % 2) 1) (eqb (x / 2) 1) e) expr_codec λ e g. (g, ap (λ (y : ℕ). y ∷ expr_bytes e) (sym (flags-number x h)), omega arith, refl);
    }
  where
    reads : (k : Key) → FitKey k → Reads read_key k (key_bytes k) (key_tags k) 0
    reads (key d m e) h =
        let f = number-flags d m in
        reads_as (ap₂ (λ (x y : Bool). key x y e) f.1 f.2) refl (omega arith) refl
        (reads_then _ ((byte_codec 4 (omega arith)).reads (bit d + 2 * bit m) f.0) (reads-map (λ (e : Expr). key (eqb ((bit d + 2 * bit m) % 2) 1) (eqb ((bit d + 2 * bit m) / 2) 1) e) (expr_codec.reads e h)))

-- what stands at the end of an entry with this function number
abbrev call_tags : Call → ℕ
call_tags g = sum_of expr_tags (call_exprs g)

call_codec : (x : ℕ) → x < 5 → Codec (λ g. FitCall g × (call_number g ≡ x)) call_bytes call_tags nought (read_call x)
unfolding read_call FitCall call_number call_bytes call_exprs sum_of
call_codec x l =
    record {
      reads = λ g h. rw (← h.1) (reads g h.0);
      only =
          only_pick (eqb x 0) (λ z. only_give ((tt, sym (eqb-true x 0 z)), refl, refl, refl))
          (λ z. let n = eqb-false x 0 z in only_map (over (fn_of x)) expr_codec λ e h. ((h, fn_number_lem x (omega arith) l), refl, omega arith, refl));
    }
  where
    reads : (g : Call) → FitCall g → Reads (read_call (call_number g)) g (call_bytes g) (call_tags g) 0
    reads rows h = reads-give
    reads (over f e) h =
        let g = number_fn f in
        reads_no _ _ (ne_eqb (fn_number f) 0 (λ z. omega arith))
        (reads_as (ap (λ (x : Fn). over x e) g.2) refl (omega arith) refl (reads-map (over (fn_of (fn_number f))) (expr_codec.reads e h)))

call_small : (g : Call) → call_number g < 5
unfolding call_number
call_small rows = omega arith
call_small (over f e) = (number_fn f).1

pub agg_codec : Codec FitAgg agg_bytes agg_tags nought read_agg
unfolding read_agg FitAgg agg_bytes agg_tags agg_exprs
agg_codec =
    record {
      reads = reads;
      only =
          only_then _ pair_codec λ c h.
          only_then _ (byte_codec 5 (omega arith)) λ x l.
          only_map (agg c) (call_codec x l) λ g i. ((h, i.0), ap (λ (y : ℕ). pair_bytes c ++ y ∷ call_bytes g) (sym i.1), omega arith, refl);
    }
  where
    reads : (a : Agg) → FitAgg a → Reads read_agg a (agg_bytes a) (agg_tags a) 0
    reads (agg c g) h =
        reads_as refl refl (omega arith) refl
        (reads_then _ (pair_codec.reads c h.0)
        (reads_then _ ((byte_codec 5 (omega arith)).reads (call_number g) (call_small g)) (reads-map (agg c) ((call_codec (call_number g) (call_small g)).reads g (h.1, refl)))))

pub win_codec : Codec FitWin win_bytes win_tags nought read_win
unfolding read_win FitWin win_bytes win_tags
win_codec =
    record {
      reads = reads;
      only =
          only_then _ pair_codec λ c h.
          only_then _ (byte_codec 5 (omega arith)) λ x l.
          only_then _ (list_codec expr_codec 1 max_keys (omega arith)) λ ps i.
          only_then _ (list_codec key_codec 1 max_keys (omega arith)) λ ks j.
          only_map (λ (g : Call). win c g ps ks) (call_codec x l) λ g m.
          ((h, m.0, i, j), ap (λ (y : ℕ). pair_bytes c ++ y ∷ (counted_bytes 1 expr_bytes ps ++ (counted_bytes 1 key_bytes ks ++ call_bytes g))) (sym m.1), omega arith, refl);
    }
  where
    reads : (w : Win) → FitWin w → Reads read_win w (win_bytes w) (win_tags w) 0
    reads (win c g ps ks) h =
        reads_as refl refl (omega arith) refl
        (reads_then _ (pair_codec.reads c h.0)
        (reads_then _ ((byte_codec 5 (omega arith)).reads (call_number g) (call_small g))
        (reads_then _ ((list_codec expr_codec 1 max_keys (omega arith)).reads ps h.2)
        (reads_then _ ((list_codec key_codec 1 max_keys (omega arith)).reads ks h.3)
        (reads-map (λ (x : Call). win c x ps ks) ((call_codec (call_number g) (call_small g)).reads g (h.1, refl)))))))

pub on_codec : Codec FitOn on_bytes on_tags nought read_on
unfolding read_on FitOn on_bytes on_tags
on_codec = record { reads = reads; only = only_then _ expr_codec λ a h. only_map (on a) expr_codec λ b g. ((h, g), refl, refl, refl) }
  where
    reads : (o : On) → FitOn o → Reads read_on o (on_bytes o) (on_tags o) 0
    reads (on a b) h = reads_then _ (expr_codec.reads a h.0) (reads-map (on a) (expr_codec.reads b h.1))

-- ── what may be left out ────────────────────────────────────────────────────────────────────

pub number_fetch : (f : Option ℕ) → FitFetch f → (fetch_number f < 2 ^ 32) × (fetch_of (fetch_number f) ≡ f)
unfolding FitFetch fetch_number fetch_of
number_fetch none h = (omega arith, refl)
number_fetch (some n) h = (omega arith, rw (ne_eqb n no_fetch (λ e. omega arith)))

pub fetch_number_lem : (x : ℕ) → x < 2 ^ 32 → FitFetch (fetch_of x) × (fetch_number (fetch_of x) ≡ x)
unfolding FitFetch fetch_number fetch_of
fetch_number_lem x h = go (eqb x no_fetch) refl
  where
    go : (b : Bool) → eqb x no_fetch ≡ b → FitFetch (pick b none (some x)) × (fetch_number (pick b none (some x)) ≡ x)
    go true e = (tt, sym (eqb-true x no_fetch e))
    go false e = let d = eqb-false x no_fetch e in (omega arith, refl)

pub not-both : (x y : ℕ) → not (eqb x 0 && eqb y 0) ≡ true → 0 < x + y
not-both zero zero e = absurd (true≢false (sym e))
not-both zero (suc y) e = omega arith
not-both (suc x) y e = omega arith

pub some_of : (x y : ℕ) → 0 < x + y → not (eqb x 0 && eqb y 0) ≡ true
some_of zero zero h = absurd (omega arith)
some_of zero (suc y) h = rw (eqb-suc-zero y)
some_of (suc x) y h = rw (eqb-suc-zero x)

-- "u8 0 or 1", then something if 1
module _ {A : Type 0} {Good : A → Type 0} {w : A → List ℕ} {tags : A → ℕ} {p : Reader A} (c : Codec Good w tags nought p) where
  abbrev IfGood : Option A → Type 0
  IfGood none = Unit {0}
  IfGood (some a) = Good a

  abbrev if_bytes : Option A → List ℕ
  if_bytes none = 0 ∷ []
  if_bytes (some a) = 1 ∷ w a

  abbrev if_tags : Option A → ℕ
  if_tags none = 0
  if_tags (some a) = tags a

  abbrev read_if : Reader (Option A)
  read_if = below 2 >>= λ x. pick (eqb x 0) (give none) (p >>= λ a. give (some a))

  if-reads : (a : Option A) → IfGood a → Reads read_if a (if_bytes a) (if_tags a) 0
  if-reads none h = reads_then _ ((byte_codec 2 (omega arith)).reads 0 (omega arith)) reads-give
  if-reads (some a) h = reads_as refl refl (omega arith) refl (reads_then _ ((byte_codec 2 (omega arith)).reads 1 (omega arith)) (reads-map some (c.reads a h)))

  if_codec : Codec IfGood if_bytes if_tags nought read_if
  if_codec =
      record {
        reads = if-reads;
        only =
            only_then _ (byte_codec 2 (omega arith)) λ x l.
            only_pick (eqb x 0) (λ z. only_give (tt, ap (λ (y : ℕ). y ∷ []) (eqb-true x 0 z), refl, refl))
            (λ z. only_map some c λ a h. (h, ap (λ (y : ℕ). y ∷ w a) (omega (arith, eqb-false x 0 z)), omega arith, refl));
      }

abbrev pub cond_tags : Option Expr → ℕ
cond_tags c = sum_of expr_tags (cond_exprs c)

pub cond_codec : Codec FitCond cond_bytes cond_tags nought read_cond
unfolding FitCond cond_bytes read_cond cond_exprs sum_of
cond_codec = codec_as (λ c h. h) (λ c h. h) (λ c h. (refl, same c)) (if_codec expr_codec)
  where
    same : (c : Option Expr) → if_tags expr_codec c ≡ cond_tags c
    same none = refl
    same (some e) = omega arith

pub columns_codec : (v : Version) → Sound v → (n : ℕ) → n ≤ v.max_columns → Codec (FitColumns v n) (columns_bytes v) nought nought (read_columns v n)
unfolding FitColumns columns_bytes read_columns
columns_codec v s n few =
    codec_as {Good = IfGood list} (λ is. elim is [ none ↦ λ h. h | some xs ↦ λ h. h ]) (λ is. elim is [ none ↦ λ h. h | some xs ↦ λ h. h ]) (λ is h. (same_bytes_lem is, same is)) (if_codec list)
  where
    list : Codec (FitList (λ i. i < n) v.max_columns) (counted_bytes v.wide (bytes v.wide)) nought nought (counted v.wide any v.max_columns (index v.wide n))
    list = plain_codec (index_codec v.wide n (omega (arith, s.columns-fit))) v.wide v.max_columns s.columns-fit

    same_bytes_lem : (is : Option (List ℕ)) → if_bytes list is ≡ columns_bytes v is
    same_bytes_lem none = refl
    same_bytes_lem (some is) = refl

    same : (is : Option (List ℕ)) → if_tags list is ≡ 0
    same none = refl
    same (some is) = refl
