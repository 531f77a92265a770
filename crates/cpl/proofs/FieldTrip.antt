-- Numbers, tags, counts and lists: their readers and their bytes belong together. Assumes nothing.
use Prim.Native.Nat.{ℕ, zero, suc, ◌+◌, ◌*◌, ◌/◌, ◌%◌, ◌^◌, ◌≤◌, ◌<◌}
use mathlib.Core.Path.{◌≡◌, refl, sym, ap}
use mathlib.Core.Bool.{Bool, true, true≢false}
use mathlib.Core.List.{List, [], ◌∷◌, append-nil}
use native.Mathlib.Omega.{arith}
use native.Mathlib.Nat.{pow-succ'}
use lib.ListN.{length, get_or}
use lib.Dec.{ltb, leb, eqb-suc-zero}
use borrow.Author.Tests.{ltb-true, leb-true, lt-ltb, le-leb}
use Rattle.cpl.specs.Limits.{max_nodes, max_tags}
use Rattle.cpl.specs.Lists.{All, a[], ◌a∷◌, AllAfter, b[], ◌b∷◌}
use Rattle.cpl.specs.Codes.{CUT, MANY}
use Rattle.cpl.specs.Tests.{concat_map, sum_of}
use Rattle.cpl.specs.AreBytes.{AreBytes}
use Rattle.cpl.specs.Read.{ok, bad, Reader, pick, little, field, value, is_not, nonzero, index, below, fresh, count, any, tag, node_tag, times, counted, times_after, counted_after}
use Rattle.cpl.specs.Bytes.{bytes, counted_bytes}
use Rattle.cpl.specs.Writable.{FitList, FitAfter, FitName}
use Rattle.cpl.proofs.Bools.{and_left}
use Rattle.cpl.proofs.Stands.{Stands, stands_fits, byte_at}
use Rattle.cpl.proofs.Codec.{same_ok, Reads, reads-give, reads_then, reads-map, reads_here, reads_yes, reads_as, holds-pick, Found, Spelled, Only, only_give, only_refuse, only_then, only_map, only_here, only_pick, only_as, Codec, nought, codec_as}

-- ── numbers ─────────────────────────────────────────────────────────────────────────────────

bytes-length : (k x : ℕ) → length (bytes k x) ≡ k
unfolding bytes
bytes-length zero x = refl
bytes-length (suc k) x = ap suc (bytes-length k (x / 256))

bytes_small : (k x : ℕ) → AreBytes (bytes k x)
unfolding bytes
bytes_small zero x = a[]
bytes_small (suc k) x = let h : x % 256 < 256 = omega arith in h a∷ bytes_small k (x / 256)

little-bytes : (k x : ℕ) (file : List ℕ) (at : ℕ) → x < 256 ^ k → Stands file at (bytes k x) → little k file at ≡ x
unfolding little bytes
little-bytes zero x file at h s = omega arith
little-bytes (suc k) x file at h s = omega (arith, s.1, little-bytes k (x / 256) file (at + 1) (omega (arith, pow-succ' 256 k)) s.2)

little-small : (k : ℕ) (file : List ℕ) (at : ℕ) → AreBytes file → little k file at < 256 ^ k
unfolding little
little-small zero file at b = omega arith
little-small (suc k) file at b = omega (arith, byte_at file b at, little-small k file (at + 1) b, pow-succ' 256 k)

little_stands : (k : ℕ) (file : List ℕ) (at : ℕ) → AreBytes file → at + k ≤ length file → Stands file at (bytes k (little k file at))
unfolding little bytes
little_stands zero file at b h = omega arith
little_stands (suc k) file at b h =
    let l : (get_or file at 0 + 256 * little k file (at + 1)) / 256 ≡ little k file (at + 1) = omega (arith, byte_at file b at) in
    (omega arith, omega (arith, byte_at file b at), rw l (little_stands k file (at + 1) b (omega arith)))

pub field_codec : (k : ℕ) → Codec (λ x. x < 256 ^ k) (bytes k) nought nought (field k)
unfolding field
field_codec k =
    record {
      reads =
          λ x h.
          record {
            are_bytes = bytes_small k x;
            read =
                λ file at t n s l m.
                rw (le-leb (at + k) (length file) (omega (arith, bytes-length k x, stands_fits file (bytes k x) at s)), little-bytes k x file at h s, bytes-length k x) (same_ok x refl (omega arith) (omega arith));
          };
      only =
          record {
            found =
                λ file b at t n h l m.
                holds-pick (Found _ file at t n) (leb (at + k) (length file)) (ok (little k file at) (at + k) t n) _
                (λ e.
                record {
                  bs = bytes k (little k file at);
                  tags = 0;
                  nodes = 0;
                  is = (little-small k file at b, refl, refl, refl);
                  stood =
                      record {
                        stands = little_stands k file at b (leb-true (at + k) (length file) e);
                        next = omega (arith, bytes-length k (little k file at));
                        tags_read = omega arith;
                        nodes_read = omega arith;
                        few_tags = l;
                        few_nodes = m;
                      };
                })
                (λ e. tt);
          };
    }

-- a field of which only some numbers are allowed
value_codec : (k : ℕ) (allowed : ℕ → Bool) → Codec (λ x. (x < 256 ^ k) × (allowed x ≡ true)) (bytes k) nought nought (value k allowed)
unfolding value
value_codec k allowed =
    record {
      reads = λ x h. reads_here _ λ at. reads_as refl (append-nil (bytes k x)) refl refl (reads_then _ ((field_codec k).reads x h.0) (reads_yes (allowed x) _ h.1 reads-give));
      only = only_here _ λ at. only_then _ (field_codec k) λ x h. only_pick (allowed x) (λ e. only_give ((h, e), append-nil (bytes k x), refl, refl)) (λ e. only_refuse);
    }

is-not-zero : (x : ℕ) → is_not 0 x ≡ true → 0 < x
unfolding is_not
is-not-zero zero e = absurd (true≢false (sym e))
is-not-zero (suc x) e = omega arith

not-zero : (x : ℕ) → 0 < x → is_not 0 x ≡ true
unfolding is_not
not-zero zero h = absurd (omega arith)
not-zero (suc x) h = rw (eqb-suc-zero x)

pub name_codec : Codec FitName (bytes 2) nought nought (nonzero 2)
unfolding nonzero FitName
name_codec = codec_as (λ x h. (h.1, not-zero x h.0)) (λ x h. (is-not-zero x h.1, h.0)) (λ x h. (refl, refl)) (value_codec 2 (is_not 0))

one_byte : (x : ℕ) → x < 256 → bytes 1 x ≡ x ∷ []
unfolding bytes
one_byte x h = ap (λ (y : ℕ). y ∷ []) (omega arith)

pub index_codec : (k n : ℕ) → n ≤ 256 ^ k → Codec (λ x. x < n) (bytes k) nought nought (index k n)
unfolding index
index_codec k n h = codec_as (λ x l. (omega arith, lt-ltb x n l)) (λ x l. ltb-true x n l.1) (λ x l. (refl, refl)) (value_codec k (λ x. ltb x n))

pub below_codec : (n : ℕ) → n ≤ 256 → Codec (λ x. x < n) (bytes 1) nought nought (below n)
unfolding below
below_codec n h = index_codec 1 n h

pub byte_codec : (n : ℕ) → n ≤ 256 → Codec (λ x. x < n) (λ x. x ∷ []) nought nought (below n)
byte_codec n h = codec_as (λ x l. l) (λ x l. l) (λ x l. (one_byte x (omega arith), refl)) (below_codec n h)

-- below n, and none of those that were taken
pub fresh-below : (n : ℕ) (taken : List ℕ) (x : ℕ) → fresh n taken x ≡ true → x < n
unfolding fresh
fresh-below n taken x e = ltb-true x n (and_left (ltb x n) _ e)

pub fresh_codec : (k n : ℕ) (taken : List ℕ) → n ≤ 256 ^ k → Codec (λ x. fresh n taken x ≡ true) (bytes k) nought nought (value k (fresh n taken))
fresh_codec k n taken h = codec_as (λ x e. (omega (arith, fresh-below n taken x e), e)) (λ x g. g.1) (λ x g. (refl, refl)) (value_codec k (fresh n taken))

-- ── tags ────────────────────────────────────────────────────────────────────────────────────

-- a byte that counts as so many tags and nodes, read where `few` says that there is room for them
counted-byte : (tags nodes : ℕ) (few : ℕ → ℕ → Bool) (t⁺ n⁺ : ℕ → ℕ) → ((t : ℕ) → t⁺ t ≡ t + tags) → ((n : ℕ) → n⁺ n ≡ n + nodes) →
    ((t n : ℕ) → t + tags ≤ max_tags → n + nodes ≤ max_nodes → few t n ≡ true) →
    ((t n : ℕ) → t ≤ max_tags → n ≤ max_nodes → few t n ≡ true → (t + tags ≤ max_tags) × (n + nodes ≤ max_nodes)) →
    Codec (λ x. x < 256) (λ x. x ∷ []) (λ x. tags) (λ x. nodes)
    (λ file at t n. pick (leb (at + 1) (length file)) (pick (few t n) (ok (get_or file at 0) (at + 1) (t⁺ t) (n⁺ n)) (bad MANY at)) (bad CUT at))
counted-byte tags nodes few t⁺ n⁺ et en room left =
    record {
      reads =
          λ x h.
          record {
            are_bytes = h a∷ a[];
            read =
                λ file at t n s l m.
                rw (le-leb (at + 1) (length file) (omega (arith, s.2)), room t n l m, s.1) (same_ok x refl (et t) (en n));
          };
      only =
          record {
            found =
                λ file b at t n h l m.
                holds-pick (Found _ file at t n) (leb (at + 1) (length file)) _ _
                (λ e.
                holds-pick (Found _ file at t n) (few t n) (ok (get_or file at 0) (at + 1) (t⁺ t) (n⁺ n)) _
                (λ f.
                let k = left t n l m f in
                record {
                  bs = get_or file at 0 ∷ [];
                  tags = tags;
                  nodes = nodes;
                  is = (byte_at file b at, refl, refl, refl);
                  stood =
                      record {
                        stands = (omega (arith, leb-true (at + 1) (length file) e), refl, leb-true (at + 1) (length file) e);
                        next = refl;
                        tags_read = et t;
                        nodes_read = en n;
                        few_tags = omega (arith, et t, k.0);
                        few_nodes = omega (arith, en n, k.1);
                      };
                })
                (λ f. tt))
                (λ e. tt);
          };
    }

pub tag_codec : Codec (λ t. t < 256) (λ t. t ∷ []) (λ t. 1) nought tag
unfolding tag
tag_codec =
    counted-byte 1 0 (λ t n. ltb t max_tags) (λ t. t + 1) (λ n. n) (λ t. refl) (λ n. omega arith) (λ t n l m. lt-ltb t max_tags (omega arith))
    (λ t n l m e. omega (arith, ltb-true t max_tags e))

pub node-tag_codec : Codec (λ t. t < 256) (λ t. t ∷ []) nought (λ t. 1) node_tag
unfolding node_tag
node-tag_codec =
    counted-byte 0 1 (λ t n. ltb n max_nodes) (λ t. t) (λ n. n + 1) (λ t. omega arith) (λ n. refl) (λ t n l m. lt-ltb n max_nodes (omega arith))
    (λ t n l m e. omega (arith, ltb-true n max_nodes e))

-- ── lists ───────────────────────────────────────────────────────────────────────────────────

count_codec : (k : ℕ) (allowed : ℕ → Bool) (limit : ℕ) → limit < 256 ^ k → Codec (λ n. (allowed n ≡ true) × (n ≤ limit)) (bytes k) nought nought (count k allowed limit)
unfolding count
count_codec k allowed limit h =
    record {
      reads =
          λ n g.
          reads_here _ λ at.
          reads_as refl (append-nil (bytes k n)) refl refl
          (reads_then _ ((value_codec k allowed).reads n (omega arith, g.0)) (reads_yes (leb n limit) _ (le-leb n limit g.1) reads-give));
      only =
          only_here _ λ at.
          only_then _ (value_codec k allowed) λ n g.
          only_pick (leb n limit) (λ e. only_give ((g.1, leb-true n limit e), append-nil (bytes k n), refl, refl)) (λ e. only_refuse);
    }

module _ {A : Type 0} {Good : A → Type 0} {w : A → List ℕ} {tags : A → ℕ} {p : Reader A} (c : Codec Good w tags nought p) where
  times-reads : (xs : List A) → All Good xs → Reads (times (length xs) p) xs (concat_map w xs) (sum_of tags xs) 0
  unfolding times concat_map sum_of
  times-reads [] a[] = reads-give
  times-reads (x ∷ xs) (h a∷ hs) = reads_then _ (c.reads x h) (reads-map (λ (ys : List A). x ∷ ys) (times-reads xs hs))

  -- n good elements
  abbrev Many : ℕ → List A → Type 0
  Many n xs = (length xs ≡ n) × All Good xs

  times-both : (n : ℕ) → Only (Spelled (Many n) (concat_map w) (sum_of tags) nought) (times n p) → Codec (Many n) (concat_map w) (sum_of tags) nought (times n p)
  times-both n o = record { reads = λ xs h. rw (← h.0) (times-reads xs h.1); only = o }

  times_only : (n : ℕ) → Only (Spelled (Many n) (concat_map w) (sum_of tags) nought) (times n p)
  unfolding times concat_map sum_of
  times_only zero = only_give ((refl, a[]), refl, refl, refl)
  times_only (suc n) = only_then _ c λ x h. only_map (λ (xs : List A). x ∷ xs) (times-both n (times_only n)) λ xs g. ((ap suc g.0, h a∷ g.1), refl, refl, refl)

  pub counted_codec : (k : ℕ) (allowed : ℕ → Bool) (limit : ℕ) → limit < 256 ^ k →
      Codec (λ xs. (allowed (length xs) ≡ true) × FitList Good limit xs) (counted_bytes k w) (sum_of tags) nought (counted k allowed limit p)
  unfolding counted counted_bytes FitList
  counted_codec k allowed limit h =
      record {
        reads = λ xs g. reads_as refl refl (omega arith) refl (reads_then _ ((count_codec k allowed limit h).reads (length xs) (g.0, g.1.0)) (times-reads xs g.1.1));
        only =
            only_then _ (count_codec k allowed limit h) λ n g.
            only_as (λ xs bs t ν i. ((rw i.0.0 g.0, (rw i.0.0 g.1, i.0.1)), cc, omega arith, omega arith)) (times_only n);
      }

  pub list_codec : (k limit : ℕ) → limit < 256 ^ k → Codec (FitList Good limit) (counted_bytes k w) (sum_of tags) nought (counted k any limit p)
  unfolding any
  list_codec k limit h = codec_as (λ xs g. (refl, g)) (λ xs g. g.1) (λ xs g. (refl, refl)) (counted_codec k any limit h)

  pub some_codec : (k limit : ℕ) → limit < 256 ^ k → Codec (λ xs. (0 < length xs) × FitList Good limit xs) (counted_bytes k w) (sum_of tags) nought (counted k (is_not 0) limit p)
  some_codec k limit h = codec_as (λ xs g. (not-zero (length xs) g.0, g.1)) (λ xs g. (is-not-zero (length xs) g.0, g.1)) (λ xs g. (refl, refl)) (counted_codec k (is_not 0) limit h)

sum_nought : {A : Type 0} (xs : List A) → sum_of nought xs ≡ 0
unfolding sum_of
sum_nought [] = refl
sum_nought (x ∷ xs) = omega (arith, sum_nought xs)

-- a list of things without tags
pub plain_codec : {A : Type 0} {Good : A → Type 0} {w : A → List ℕ} {p : Reader A} → Codec Good w nought nought p → (k limit : ℕ) → limit < 256 ^ k →
    Codec (FitList Good limit) (counted_bytes k w) nought nought (counted k any limit p)
plain_codec c k limit h = codec_as (λ xs g. g) (λ xs g. g) (λ xs g. (refl, sum_nought xs)) (list_codec c k limit h)

-- ── lists whose elements know those before them ─────────────────────────────────────────────

module _ {A : Type 0} {Good : List A → A → Type 0} {w : A → List ℕ} {p : List A → Reader A} (c : (before : List A) → Codec (Good before) w nought nought (p before)) where
  after-reads : (before : List A) {xs : List A} → AllAfter Good before xs → Reads (times_after (length xs) p before) xs (concat_map w xs) 0 0
  unfolding times_after concat_map
  after-reads before b[] = reads-give
  after-reads before (◌b∷◌ {x = x} {xs = xs} h hs) = reads_then _ ((c before).reads x h) (reads-map (λ (ys : List A). x ∷ ys) (after-reads (x ∷ before) hs))

  -- n elements, good behind `before`
  abbrev ManyAfter : ℕ → List A → List A → Type 0
  ManyAfter n before xs = (length xs ≡ n) × AllAfter Good before xs

  after_both : (n : ℕ) (before : List A) → Only (Spelled (ManyAfter n before) (concat_map w) nought nought) (times_after n p before) → Codec (ManyAfter n before) (concat_map w) nought nought (times_after n p before)
  after_both n before o = record { reads = λ xs h. rw (← h.0) (after-reads before h.1); only = o }

  after_only : (n : ℕ) (before : List A) → Only (Spelled (ManyAfter n before) (concat_map w) nought nought) (times_after n p before)
  unfolding times_after concat_map
  after_only zero before = only_give ((refl, b[]), refl, refl, refl)
  after_only (suc n) before =
      only_then _ (c before) λ x h. only_map (λ (xs : List A). x ∷ xs) (after_both n (x ∷ before) (after_only n (x ∷ before))) λ xs g. ((ap suc g.0, h b∷ g.1), refl, refl, refl)

  pub after_codec : (k : ℕ) (allowed : ℕ → Bool) (limit : ℕ) → limit < 256 ^ k →
      Codec (λ xs. (allowed (length xs) ≡ true) × FitAfter Good limit xs) (counted_bytes k w) nought nought (counted_after k allowed limit p)
  unfolding counted_after counted_bytes FitAfter
  after_codec k allowed limit h =
      record {
        reads = λ xs g. reads_then _ ((count_codec k allowed limit h).reads (length xs) (g.0, g.1.0)) (after-reads [] g.1.1);
        only =
            only_then _ (count_codec k allowed limit h) λ n g.
            only_as (λ xs bs t ν i. ((rw i.0.0 g.0, (rw i.0.0 g.1, i.0.1)), cc, omega arith, omega arith)) (after_only n []);
      }

  pub list-after_codec : (k limit : ℕ) → limit < 256 ^ k → Codec (FitAfter Good limit) (counted_bytes k w) nought nought (counted_after k any limit p)
  unfolding any
  list-after_codec k limit h = codec_as (λ xs g. (refl, g)) (λ xs g. g.1) (λ xs g. (refl, refl)) (after_codec k any limit h)

  pub some-after_codec : (k limit : ℕ) → limit < 256 ^ k → Codec (λ xs. (0 < length xs) × FitAfter Good limit xs) (counted_bytes k w) nought nought (counted_after k (is_not 0) limit p)
  some-after_codec k limit h = codec_as (λ xs g. (not-zero (length xs) g.0, g.1)) (λ xs g. (is-not-zero (length xs) g.0, g.1)) (λ xs g. (refl, refl)) (after_codec k (is_not 0) limit h)
