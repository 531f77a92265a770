-- Request 13: "Exactly the listings that item 1 produces for version 1 plans, with no line over 4,096 bytes …, are accepted; reading a written one gives back the
-- same plan bytes, and writing a read one gives back the same text." Assumes nothing.
use mathlib.Core.Path.{◌≡◌, refl, sym, ap, ap₂, ◌∙◌}
use mathlib.Core.Logic.{◌↔◌}
use mathlib.Core.List.{List, [], ◌∷◌, ◌++◌, append_assoc}
use mathlib.Core.Bool.{true}
use mathlib.Core.Option.{Option, none, some}
use Prim.Native.Nat.{ℕ, suc}
use native.Mathlib.Omega.{arith}
use lib.ListN.{length}
use Rattle.cpl.specs.AreBytes.{AreBytes}
use Rattle.cpl.specs.Lists.{All}
use Rattle.cpl.specs.Tests.{concat_map}
use Rattle.cpl.specs.Limits.{Version, version1}
use Rattle.cpl.specs.Plan.{scan, empty, Plan, leaf, unary, binary, Catalogue, Source}
use Rattle.cpl.specs.Accept.{Fault, fault}
use Rattle.cpl.specs.Bytes.{plan_bytes, catalogue_bytes, bytes_of}
use Rattle.cpl.specs.Read.{Res, ok, bad}
use Rattle.cpl.specs.ReadPlan.{Head, h0, h1, h2, mark_bytes}
use Rattle.cpl.specs.Writable.{FitList, FitLeaf, FitCatalogue, Writable}
use Rattle.cpl.proofs.Lists.{All_map, All_left, All_right}
use Rattle.cpl.proofs.HeadTrip.{FitHead}
use Rattle.cpl.proofs.RoundTrip.{bytes_are_bytes, read_written, written_read}
use Rattle.plan_text.specs.Listing.{heads_of, plan_text, listing}
use Rattle.plan_text.specs.Lines.{lines_of, Short, unfiltered, short_head_at, Formed, formed, broken, forms}
use Rattle.plan_text.specs.Sizes.{size_fault}
use Rattle.plan_text.specs.Answers.{LINE, yields, list_of, read_tables, node_bytes, file_outcome, sized, lined, tabled, read_listing}
use Rattle.plan_text.proofs.LinesTrip.{lines_line, short_head_at_lem, Legible, forms-listing}
use Rattle.plan_text.proofs.ListTrip.{all_both}
use Rattle.plan_text.proofs.Named.{head-named}
use Rattle.plan_text.proofs.Forest.{plan_was}
use Rattle.plan_text.proofs.SizesTrip.{Sized, sized-none, none-sized}
use Rattle.plan_text.proofs.Heads.{heads-bytes, heads-tags, heads-nodes, heads-fit, fit-heads}
use Rattle.plan_text.proofs.Outcomes.{Accepted, accepted-yields, impossible, yields-accepted}
use Rattle.plan_text.proofs.Tables.{table_file, tables_read, tables_was}

-- ── nodes that fit make a file ──────────────────────────────────────────────────────────────

writable : (C : Catalogue) (p : Plan) → FitCatalogue C → Sized C 1 0 (heads_of p) → Writable (record { catalogue = C; plan = p })
writable C p t s =
    record {
      tables = t;
      nodes_fit = fit-heads C p s.fit;
      few_nodes = omega (arith, s.nodes, heads-nodes p);
      few_tags = omega (arith, s.tags, heads-tags p);
    }

writable_sized : (s : Source) → Writable s → Sized s.catalogue 1 0 (heads_of s.plan)
writable_sized s w =
    record {
      fit = heads-fit s.catalogue s.plan w.nodes_fit;
      tags = omega (arith, w.few_tags, heads-tags s.plan);
      nodes = omega (arith, w.few_nodes, heads-nodes s.plan);
    }

file_bytes : (C : Catalogue) (p : Plan) → C.version ≡ version1 → table_file C ++ concat_map (node_bytes version1) (heads_of p) ≡ bytes_of (record { catalogue = C; plan = p })
unfolding bytes_of
file_bytes C p e =
    append_assoc (mark_bytes version1) (catalogue_bytes C) (concat_map (node_bytes version1) (heads_of p))
    ∙ (ap (λ (bs : List ℕ). mark_bytes version1 ++ (catalogue_bytes C ++ bs)) (heads-bytes version1 p)
    ∙ ap (λ (v : Version). mark_bytes v ++ (catalogue_bytes C ++ plan_bytes v p)) (sym e))

-- ── back ────────────────────────────────────────────────────────────────────────────────────

abbrev pub Unfiltered : Head → Type 0
Unfiltered h = unfiltered h ≡ true

-- version 1 has no filters
fit-unfiltered : (C : Catalogue) (h : Head) → C.version ≡ version1 → FitHead C h → unfiltered h ≡ true
unfolding unfiltered FitLeaf FitList
fit-unfiltered C (h0 (scan t q is [])) e f = refl
fit-unfiltered C (h0 (scan t q is (x ∷ xs))) e f = absurd (let l = f.3.0 in let m : C.version.max_filters ≡ 0 = ap (λ (v : Version). v.max_filters) e in omega arith)
fit-unfiltered C (h0 (empty b cs)) e f = refl
fit-unfiltered C (h1 h) e f = refl
fit-unfiltered C (h2 h) e f = refl

-- a plan without filters whose lines are short, and what follows it
short_plan : (p : Plan) → All Unfiltered (heads_of p) → (w : ℕ) (rest : List ℕ) → Short (lines_of (plan_text w p rest)) → Legible short_head_at w p × Short (lines_of rest)
unfolding plan_text heads_of
short_plan (leaf h) f w rest s =
    let k = rw (lines_line w (h0 h) rest) at s in
    (short_head_at_lem w (h0 h) (all_both f).0 k.0, k.1)
short_plan (unary h p) f w rest s =
    let k = rw (lines_line w (h1 h) (plan_text (suc w) p rest)) at s in
    let r = short_plan p (all_both f).1 (suc w) rest k.1 in
    ((short_head_at_lem w (h1 h) (all_both f).0 k.0, r.0), r.1)
short_plan (binary h p₁ p₂) f w rest s =
    let k = rw (lines_line w (h2 h) (plan_text (suc w) p₁ (plan_text (suc w) p₂ rest))) at s in
    let r₁ = short_plan p₁ (All_left (heads_of p₁) (heads_of p₂) (all_both f).1) (suc w) (plan_text (suc w) p₂ rest) k.1 in
    let r₂ = short_plan p₂ (All_right (heads_of p₁) (heads_of p₂) (all_both f).1) (suc w) rest r₁.1 in
    ((short_head_at_lem w (h2 h) (all_both f).0 k.0, r₁.0, r₂.0), r₂.1)

-- a listing of version 1 without a line over 4,096 bytes is never refused with 19, whatever its numbers and lengths
pub short_listing : (p : Plan) → All Unfiltered (heads_of p) → Short (lines_of (listing p)) → forms short_head_at (0 ∷ []) 1 (lines_of (listing p)) ≡ formed (heads_of p)
unfolding listing
short_listing p f s = forms-listing short_head_at p (short_plan p f 0 [] s).0

-- tables, lines of a form and numbers that fit
through : (catalogue text : List ℕ) (C : Catalogue) (next tags nodes : ℕ) (hs : List Head) → read_tables catalogue 0 0 0 ≡ ok C next tags nodes →
    forms short_head_at (0 ∷ []) 1 (lines_of text) ≡ formed hs → size_fault C 1 0 hs ≡ none → read_listing catalogue text ≡ file_outcome (catalogue ++ concat_map (node_bytes version1) hs)
unfolding read_listing tabled lined sized
through catalogue text C next tags nodes hs e f g = rw (e, f, g)

-- "reading a written one gives back the same plan bytes"
pub read_back : (file text : List ℕ) (s : Source) → s.catalogue.version ≡ version1 → AreBytes file → Accepted file s → list_of file ≡ yields text → Short (lines_of text) →
    read_listing (table_file s.catalogue) text ≡ yields file
unfolding list_of file_outcome listing
read_back file text s v b a e short =
    let C = s.catalogue in
    let p = s.plan in
    let w = written_read file b s a.next a.tags a.nodes a.reads in
    let same : listing p ≡ text = (let f = accepted-yields (λ s. listing s.plan) file s a in cc) in
    let heads = short_listing p (All_map (λ h f. fit-unfiltered C h v f) (heads-fit C p w.writable.nodes_fit)) (rw (← same) at short) in
    through (table_file C) text C (length (table_file C)) 0 0 (heads_of p) (tables_read C w.writable.tables v) (rw (← same) heads) (sized-none C (heads_of p) 1 0 (writable_sized s w.writable))
    ∙ (ap file_outcome (file_bytes C p v ∙ w.same) ∙ accepted-yields (λ s. file) file s a)

-- ── forth ───────────────────────────────────────────────────────────────────────────────────

record Came (catalogue text file : List ℕ) : Type 0 where
  C : Catalogue
  next : ℕ
  tags : ℕ
  nodes : ℕ
  hs : List Head
  tables : read_tables catalogue 0 0 0 ≡ ok C next tags nodes
  formed_as : forms short_head_at (0 ∷ []) 1 (lines_of text) ≡ formed hs
  fits : size_fault C 1 0 hs ≡ none
  outcome : file_outcome (catalogue ++ concat_map (node_bytes version1) hs) ≡ yields file

came : (catalogue text file : List ℕ) → read_listing catalogue text ≡ yields file → Came catalogue text file
unfolding read_listing tabled lined sized
came catalogue text file e = tables (read_tables catalogue 0 0 0) refl e
  where
    sizes : (C : Catalogue) (next tags nodes : ℕ) → read_tables catalogue 0 0 0 ≡ ok C next tags nodes → (hs : List Head) → forms short_head_at (0 ∷ []) 1 (lines_of text) ≡ formed hs →
        (f : Option Fault) → size_fault C 1 0 hs ≡ f → sized catalogue hs f ≡ yields file → Came catalogue text file
    sizes C next tags nodes t hs h none g e = record { C = C; next = next; tags = tags; nodes = nodes; hs = hs; tables = t; formed_as = h; fits = g; outcome = e }
    sizes C next tags nodes t hs h (some (fault code n)) g e = impossible code n file e

    lines : (C : Catalogue) (next tags nodes : ℕ) → read_tables catalogue 0 0 0 ≡ ok C next tags nodes → (f : Formed) → forms short_head_at (0 ∷ []) 1 (lines_of text) ≡ f →
        lined catalogue C f ≡ yields file → Came catalogue text file
    lines C next tags nodes t (formed hs) h e = sizes C next tags nodes t hs h (size_fault C 1 0 hs) refl e
    lines C next tags nodes t (broken n) h e = impossible LINE n file e

    tables : (r : Res Catalogue) → read_tables catalogue 0 0 0 ≡ r → tabled catalogue text r ≡ yields file → Came catalogue text file
    tables (ok C next tags nodes) t e = lines C next tags nodes t (forms short_head_at (0 ∷ []) 1 (lines_of text)) refl e
    tables (bad code place) t e = impossible code place file e

-- what was read back: an accepted file over this catalogue, whose listing is the text
pub record ReadBack (catalogue text file : List ℕ) : Type 0 where
  pub source : Source
  pub first-version : source.catalogue.version ≡ version1
  pub bytes : AreBytes file
  pub accepts : Accepted file source
  pub same_tables : catalogue ≡ table_file source.catalogue
  pub lists : list_of file ≡ yields text
  pub short : Short (lines_of text)

of_source : (s : Source) → s.catalogue.version ≡ version1 → Writable s → (text file : List ℕ) → file_outcome (bytes_of s) ≡ yields file → text ≡ listing s.plan → Short (lines_of text) →
    ReadBack (table_file s.catalogue) text file
unfolding file_outcome list_of
of_source s v w text file e same short =
    let f = bytes_of s in
    let (s', a, g) = yields-accepted (λ x. f) f file e in
    let r = read_written s w in
    let r' = a.reads in
    let is : s' ≡ s = cc in
    let b : Accepted f s = rw is at a in
    let c : Accepted file s = rw g at b in
    record {
      source = s;
      first-version = v;
      bytes = rw (← g) (bytes_are_bytes s w);
      accepts = c;
      same_tables = refl;
      lists = accepted-yields (λ x. listing x.plan) file s c ∙ ap yields (sym same);
      short = short;
    }

-- "writing a read one gives back the same text"
pub write_back : (catalogue text file : List ℕ) → AreBytes catalogue → read_listing catalogue text ≡ yields file → ReadBack catalogue text file
write_back catalogue text file b e =
    let c = came catalogue text file e in
    let t = tables_was catalogue b c.C c.next c.tags c.nodes c.tables in
    let z = none-sized c.C c.hs 1 0 (omega arith) (omega arith) c.fits in
    let q = plan_was text c.hs c.formed_as in
    let p = q.plan in
    let fits : Sized c.C 1 0 (heads_of p) = rw q.heads z in
    let same : text ≡ listing p = q.same (All_map (head-named c.C) z.fit) in
    let file-is : catalogue ++ concat_map (node_bytes version1) c.hs ≡ bytes_of (record { catalogue = c.C; plan = p }) =
    ap₂ ◌++◌ (sym t.same) (ap (concat_map (node_bytes version1)) (sym q.heads)) ∙ file_bytes c.C p t.first-version in
    rw (← t.same) (of_source (record { catalogue = c.C; plan = p }) t.first-version (writable c.C p t.fits fits) text file (sym (ap file_outcome file-is) ∙ c.outcome) same q.short)

-- "Exactly the listings that item 1 produces …, with no line over 4,096 bytes …, are accepted"
pub record ListingOver (catalogue text : List ℕ) : Type 0 where
  pub file : List ℕ
  pub source : Source
  pub first-version : source.catalogue.version ≡ version1
  pub bytes : AreBytes file
  pub accepts : Accepted file source
  pub over : catalogue ≡ table_file source.catalogue
  pub lists : list_of file ≡ yields text
  pub short : Short (lines_of text)

pub exactly : (catalogue text : List ℕ) → AreBytes catalogue → ((file : List ℕ) × (read_listing catalogue text ≡ yields file)) ↔ ListingOver catalogue text
exactly catalogue text b = (
  λ r. (let w = write_back catalogue text r.0 b r.1 in
      record { file = r.0; source = w.source; first-version = w.first-version; bytes = w.bytes; accepts = w.accepts; over = w.same_tables; lists = w.lists; short = w.short }),
  λ l. (l.file, rw l.over (read_back l.file text l.source l.first-version l.bytes l.accepts l.lists l.short)),
)
