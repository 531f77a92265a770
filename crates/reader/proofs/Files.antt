-- The mark, the end and the whole file. Assumes nothing.
use Prim.Native.Nat.{ℕ, suc, ◌≤◌, ◌<◌}
use mathlib.Core.Path.{◌≡◌, refl, sym, ap, ◌∙◌}
use mathlib.Core.Bool.{Bool, true, false, ◌&&◌}
use mathlib.Core.List.{List, [], ◌∷◌}
use native.Mathlib.Omega.{arith}
use native.Mathlib.Decide.{ℕ_discrete}
use lib.Dec.{eqb}
use lib.ListN.{length, get_or}
use borrow.Author.Tests.{eq-eqb, ne_eqb}
use Rattle.std.specs.Prelude.{Result, Ok, Err, Some, None}
use Rattle.cpl.specs.Limits.{IsVersion, is_1, is_2, version1, version2, max_nodes, max_tables}
use Rattle.cpl.specs.Limits as cpl
use Rattle.cpl.specs.Codes.{MARK, TAIL}
use Rattle.cpl.specs.Plan.{TableKey, Catalogue}
use Rattle.cpl.specs.Read.{ok, bad, count, counted, counted_after, any, times}
use Rattle.cpl.specs.ReadPlan.{starts, mark_bytes, read_mark, read_table_key, read_catalogue, read_end, read_source, read_file}
use Rattle.versions.specs.Versions.{version_of, Known}
use Rattle.versions.specs.declared.Version.{Version}
use Rattle.reader_fields.specs.Answers.{spot}
use Rattle.catalogue.specs.Tables.{tables_at, read_table}
use Rattle.catalogue.specs.Keys.{TablesPut}
use Rattle.reader.specs.Marks.{MarkIs}
use Rattle.catalogue.proofs.Names.{catalogue_at}
use Rattle.reader.specs.Plans.{ReadsPlan, read_body, TookBody, RightBody, RightFile}
use Rattle.refusals.specs.declared.Refusal.{Refusal}
use Rattle.reader.specs.declared.Read as answer
use Rattle.reader.specs.declared.Planned.{Planned}
use Rattle.reader.proofs.Plans.{RefusesPlan}

-- ── the mark ────────────────────────────────────────────────────────────────────────────────

pub mark_short : (number : ℕ) (file : List ℕ) → length file < 5 → false ≡ starts (67 ∷ 80 ∷ 76 ∷ number ∷ 0 ∷ []) file
unfolding starts
mark_short number [] h = refl
mark_short number (a ∷ []) h = short (eqb 67 a)
  where
    short : (x : Bool) → false ≡ x && false
    short true = refl
    short false = refl
mark_short number (a ∷ b ∷ []) h = short (eqb 67 a) (eqb 80 b)
  where
    short : (x y : Bool) → false ≡ x && (y && false)
    short true true = refl
    short true false = refl
    short false y = refl
mark_short number (a ∷ b ∷ c ∷ []) h = short (eqb 67 a) (eqb 80 b) (eqb 76 c)
  where
    short : (x y z : Bool) → false ≡ x && (y && (z && false))
    short true true true = refl
    short true true false = refl
    short true false z = refl
    short false y z = refl
mark_short number (a ∷ b ∷ c ∷ d ∷ []) h = short (eqb 67 a) (eqb 80 b) (eqb 76 c) (eqb number d)
  where
    short : (x y z u : Bool) → false ≡ x && (y && (z && (u && false)))
    short true true true true = refl
    short true true true false = refl
    short true true false u = refl
    short true false z u = refl
    short false y z u = refl
mark_short number (a ∷ b ∷ c ∷ d ∷ e ∷ rest) h = absurd (omega arith)

mark_is : (number : ℕ) (file : List ℕ) → 5 ≤ length file → starts (67 ∷ 80 ∷ 76 ∷ number ∷ 0 ∷ []) file ≡ eqb 67 (get_or file 0 0) && (eqb 80 (get_or file 1 0) && (eqb 76 (get_or file 2 0) && (eqb number (get_or file 3 0) && (eqb 0 (get_or file 4 0) && true))))
unfolding starts
mark_is number [] h = absurd (omega arith)
mark_is number (a ∷ []) h = absurd (omega arith)
mark_is number (a ∷ b ∷ []) h = absurd (omega arith)
mark_is number (a ∷ b ∷ c ∷ []) h = absurd (omega arith)
mark_is number (a ∷ b ∷ c ∷ d ∷ []) h = absurd (omega arith)
mark_is number (a ∷ b ∷ c ∷ d ∷ e ∷ rest) h = refl

-- the byte at i is m, or is not
is_byte : (file : List ℕ) (i m : ℕ) → get_or file i 0 ≡ m → eqb m (get_or file i 0) ≡ true
is_byte file i m e = eq-eqb m (get_or file i 0) (sym e)

not_byte : (file : List ℕ) (i m : ℕ) → (get_or file i 0 ≡ m → ⊥) → eqb m (get_or file i 0) ≡ false
not_byte file i m e = ne_eqb m (get_or file i 0) (λ z. e (sym z))

never : (x : Bool) → false ≡ x && false
never true = refl
never false = refl

either_way : (a b : ℕ) → eqb a b ≡ eqb b a && true
either_way a b = elim (ℕ_discrete a b) [
  | yes e ↦ rw (eq-eqb a b e, eq-eqb b a (sym e))
  | no e ↦ rw (ne_eqb a b e, ne_eqb b a (λ z. e (sym z)))
]

module _ (number : ℕ) (file : List ℕ) (long : 5 ≤ length file) where
  pub mark_0 : (get_or file 0 0 ≡ 67 → ⊥) → false ≡ starts (67 ∷ 80 ∷ 76 ∷ number ∷ 0 ∷ []) file
  mark_0 h = rw (mark_is number file long, not_byte file 0 67 h)

  module _ (a : get_or file 0 0 ≡ 67) where
    pub mark_1 : (get_or file 1 0 ≡ 80 → ⊥) → false ≡ starts (67 ∷ 80 ∷ 76 ∷ number ∷ 0 ∷ []) file
    mark_1 h = rw (mark_is number file long, is_byte file 0 67 a, not_byte file 1 80 h)

    module _ (b : get_or file 1 0 ≡ 80) where
      pub mark_2 : (get_or file 2 0 ≡ 76 → ⊥) → false ≡ starts (67 ∷ 80 ∷ 76 ∷ number ∷ 0 ∷ []) file
      mark_2 h = rw (mark_is number file long, is_byte file 0 67 a, is_byte file 1 80 b, not_byte file 2 76 h)

      module _ (c : get_or file 2 0 ≡ 76) where
        pub mark_4 : (get_or file 4 0 ≡ 0 → ⊥) → false ≡ starts (67 ∷ 80 ∷ 76 ∷ number ∷ 0 ∷ []) file
        mark_4 h = rw (mark_is number file long, is_byte file 0 67 a, is_byte file 1 80 b, is_byte file 2 76 c, not_byte file 4 0 h) (never (eqb number (get_or file 3 0)))

        pub mark_yes : get_or file 4 0 ≡ 0 → {x : ℕ} → x ≡ get_or file 3 0 → eqb x number ≡ starts (67 ∷ 80 ∷ 76 ∷ number ∷ 0 ∷ []) file
        mark_yes h {x} e = rw (mark_is number file long, is_byte file 0 67 a, is_byte file 1 80 b, is_byte file 2 76 c, is_byte file 4 0 h, ← e) (either_way x number)

module _ (file : List ℕ) where
  pub marked_1 : (version : Version) → version_of version ≡ version1 → {b : Bool} → b ≡ true → b ≡ starts (mark_bytes version1) file → MarkIs file (Some version)
  unfolding read_mark
  marked_1 version e f g = (λ tags n. rw (← g, f, e), rw e is_1)

  module _ {a : Bool} (no : a ≡ false) (first : a ≡ starts (mark_bytes version1) file) where
    pub marked_2 : (version : Version) → version_of version ≡ version2 → {b : Bool} → b ≡ true → b ≡ starts (mark_bytes version2) file → MarkIs file (Some version)
    unfolding read_mark
    marked_2 version e f g = (λ tags n. rw (← first, no, ← g, f, e), rw e is_2)

    pub marked-none : {b : Bool} → b ≡ false → b ≡ starts (mark_bytes version2) file → MarkIs file None
    unfolding read_mark
    marked-none f g = λ tags n. rw (← first, no, ← g, f)

-- the mark is of one version
pub same_mark : (file : List ℕ) {v w : cpl.Version} → ((tags n : ℕ) → read_mark file 0 tags n ≡ ok v 5 tags n) → read_mark file 0 0 0 ≡ ok w 5 0 0 → v ≡ w
same_mark file e f = let g = sym (e 0 0) ∙ f in cc

pub no_mark : (file : List ℕ) {w : cpl.Version} → ((tags n : ℕ) → read_mark file 0 tags n ≡ bad MARK 0) → read_mark file 0 0 0 ≡ ok w 5 0 0 → ⊥
no_mark file e f = let z : ◌≡◌ {A = ℕ} 0 1 = both (sym (e 0 0) ∙ f) in omega arith
  where
    both : {w : cpl.Version} → bad MARK 0 ≡ ok w 5 0 0 → ◌≡◌ {A = ℕ} 0 1
    both g = cc

pub known_1 : (version : Version) → version_of version ≡ version1 → Known version
known_1 version e = rw e is_1

-- ── the plan and the end ────────────────────────────────────────────────────────────────────

module _ (v : cpl.Version) (C : Catalogue) (file : List ℕ) (at : ℕ) where
  pub body_bad : {code place : ℕ} → RefusesPlan C file at 0 0 code place → read_body C file at 0 0 ≡ bad code place
  body_bad h = rw (h (suc max_nodes) (omega arith))

  module _ (c c1 w w1 m m1 : List ℕ) (r : Planned) (p : ReadsPlan v C file (spot at 0 0 0) 0 c c1 w w1 m m1 (Ok r)) where
    pub body_tail : (r.spot.at ≡ length file → ⊥) → read_body C file at 0 0 ≡ bad TAIL r.spot.at
    unfolding read_end
    body_tail h = rw ((p (suc max_nodes) (omega arith)).is, ne_eqb r.spot.at (length file) h)

    pub body_took : r.spot.at ≡ length file → TookBody C c c1 w w1 m m1 (read_body C file at 0 0) (length file) r.nodes r.spot.tags r.spot.made
    unfolding read_end
    body_took h =
        let a = p (suc max_nodes) (omega arith) in
        record {
          plan = a.plan;
          is = rw (a.is, eq-eqb r.spot.at (length file) h) (ap (λ (e : ℕ). ok (record { catalogue = C; plan = a.plan }) e r.spot.tags r.nodes) h);
          holds =
              record {
                made_is = a.made_is ∙ omega arith;
                count_is = a.count_is ∙ omega arith;
                cells_are = a.cells_are;
                rows_are = a.rows_are;
                nodes_are = a.nodes_are;
                few_made = omega (arith, a.made_is, a.grown);
                few_tags = a.few_tags;
                few_nodes = a.few_nodes;
              };
        }

-- ── the file ────────────────────────────────────────────────────────────────────────────────

module _ (file : List ℕ) where
  pub file_mark : ((tags n : ℕ) → read_mark file 0 tags n ≡ bad MARK 0) → read_file file ≡ bad MARK 0
  unfolding read_source
  file_mark e = rw (e 0 0)

  module _ (version : Version) (mark : (tags n : ℕ) → read_mark file 0 tags n ≡ ok (version_of version) 5 tags n) where
    pub file_count : {code place : ℕ} → ((tags n : ℕ) → count 1 any max_tables file 5 tags n ≡ bad code place) → read_file file ≡ bad code place
    unfolding read_source read_catalogue counted
    file_count e = rw (mark 0 0, e 0 0)

    module _ {n after : ℕ} (e : (tags m : ℕ) → count 1 any max_tables file 5 tags m ≡ ok n after tags m) where
      pub file_tables : {code place : ℕ} → ((tags m : ℕ) → times n (read_table (version_of version)) file after tags m ≡ bad code place) → read_file file ≡ bad code place
      unfolding read_source read_catalogue counted
      file_tables h = rw (mark 0 0, e 0 0, h 0 0)

      module _ (names : List ℕ) (next : ℕ) (h : (tags m : ℕ) → times n (read_table (version_of version)) file after tags m ≡ ok (tables_at names 0 n) next tags m) where
        pub file_keys : {code place : ℕ} →
            ((tags m : ℕ) → counted_after version.late any version.keys (read_table_key (version_of version) (tables_at names 0 n)) file next tags m ≡ bad code place) → read_file file ≡ bad code place
        unfolding read_source read_catalogue counted
        file_keys k = rw (mark 0 0, e 0 0, h 0 0, k 0 0)

        module _ (ks : List TableKey) (start : ℕ)
            (k : (tags m : ℕ) → counted_after version.late any version.keys (read_table_key (version_of version) (tables_at names 0 n)) file next tags m ≡ ok ks start tags m) where
          tables_at_lem : read_catalogue (version_of version) file 5 0 0 ≡ ok (catalogue_at (version_of version) names n ks) start 0 0
          unfolding read_catalogue counted
          tables_at_lem = rw (e 0 0, h 0 0, k 0 0)

          body_is : read_file file ≡ read_body (catalogue_at (version_of version) names n ks) file start 0 0
          unfolding read_source
          body_is = rw (mark 0 0, tables_at_lem)

          pub file_right : n < 17 → (keys : List ℕ) → TablesPut keys ks → (c c1 w w1 m m1 : List ℕ) (r : Result answer.Read Refusal) → RightBody (catalogue_at (version_of version) names n ks) file start version n c c1 w w1 m m1 r →
              RightFile file c c1 w w1 m m1 names keys r
          file_right l keys put c c1 w w1 m m1 (Ok of) b =
              record {
                plan = b.3.plan;
                C = catalogue_at (version_of version) names n ks;
                version_is = ap version_of (sym b.0);
                tables_are = ap (λ (t : ℕ). tables_at names 0 t) (sym b.1);
                marked = mark 0 0;
                is = body_is ∙ b.3.is;
                starts_at = rw b.2 tables_at_lem;
                few_tables = omega (arith, b.1);
                keys_are = record { each = put.each };
                holds = b.3.holds;
              }
          file_right l keys put c c1 w w1 m m1 (Err e₁) b = body_is ∙ b
