-- What is known of every answer of the two entries: which files yield, which codes they refuse with, and what they leave of the buffer. Assumes nothing.
use mathlib.Core.Path.{◌≡◌, refl, ◌∙◌}
use mathlib.Core.Logic.{◌⊎◌, inl, inr, ⊎_elim}
use mathlib.Core.List.{List, [], ◌∷◌, ◌++◌}
use mathlib.Core.Bool.{Bool, true, false}
use mathlib.Core.Option.{Option, none, some}
use Prim.Native.Nat.{ℕ, suc, ◌≤◌}
use native.Mathlib.Omega.{arith}
use lib.Dec.{T, eqb, leb, ltb, leb→le}
use lib.ListN.{length, drop, length-append, length-drop}
use lib.Seq.{drop-append_seam}
use Rattle.cpl.specs.Tests.{concat_map}
use Rattle.cpl.specs.Limits.{Version, version1, version2, max_nodes, max_tags}
use Rattle.cpl.specs.Codes.{MARK, TAIL, ROOM, AMBIGUOUS}
use Rattle.cpl.specs.Plan.{Catalogue, Source}
use Rattle.cpl.specs.Accept.{Fault, fault, check}
use Rattle.cpl.specs.Read.{Res, ok, bad, and_then, ◌>>=◌, give, pick}
use Rattle.cpl.specs.ReadPlan.{Head, mark_bytes, starts, read_mark, read_catalogue, plan_to, read_end, read_source, read_file}
use Rattle.cpl.proofs.Refusals.{Within, Coded, reading_coded, Faulty, check_coded}
use Rattle.rules.specs.Answer.{refusal, success, written}
use Rattle.rules.proofs.Answers.{Buffered}
use Rattle.plan_text.specs.Lines.{Formed, formed, broken}
use Rattle.plan_text.specs.Sizes.{Demand, allowed, few, tagged, Weighed, fine, unmet, weigh, head_asks, or_fault, size_fault}
use Rattle.plan_text.specs.Answers.{LINE, Outcome, refuses, yields, delivered, faultless, accepted, list_of, list_answer, read_mark1, read_tables, node_bytes, file_outcome, sized, lined, tabled, read_listing, read_answer}

-- ── which files yield ───────────────────────────────────────────────────────────────────────

-- a file that reads as s, whose plan has no fault
pub record Accepted (file : List ℕ) (s : Source) : Type 0 where
  pub next : ℕ
  pub tags : ℕ
  pub nodes : ℕ
  pub reads : read_file file ≡ ok s next tags nodes
  pub no_fault : check s.catalogue s.plan 0 ≡ none

pub accepted-yields : (make : Source → List ℕ) (file : List ℕ) (s : Source) → Accepted file s → accepted make (read_file file) ≡ yields (make s)
unfolding accepted faultless
accepted-yields make file s a = rw (a.reads, a.no_fault)

pub impossible : {A : Type 0} (code place : ℕ) (bs : List ℕ) → refuses code place ≡ yields bs → A
impossible code place bs e = absurd (let z : ◌≡◌ {A = ℕ} 0 1 = cc in omega arith)

-- what is yielded is made of an accepted source
pub yields-accepted : (make : Source → List ℕ) (file bs : List ℕ) → accepted make (read_file file) ≡ yields bs → (s : Source) × Accepted file s × (make s ≡ bs)
unfolding accepted faultless
yields-accepted make file bs e = go (read_file file) refl e
  where
    found : (s : Source) (next tags nodes : ℕ) → read_file file ≡ ok s next tags nodes → (f : Option Fault) → check s.catalogue s.plan 0 ≡ f → faultless (make s) f ≡ yields bs →
        (s : Source) × Accepted file s × (make s ≡ bs)
    found s next tags nodes r none f e = (s, record { next = next; tags = tags; nodes = nodes; reads = r; no_fault = f }, cc)
    found s next tags nodes r (some (fault code node)) f e = impossible code node bs e

    go : (r : Res Source) → read_file file ≡ r → accepted make r ≡ yields bs → (s : Source) × Accepted file s × (make s ≡ bs)
    go (ok s next tags nodes) r e = found s next tags nodes r (check s.catalogue s.plan 0) refl e
    go (bad code place) r e = impossible code place bs e

-- ── codes ───────────────────────────────────────────────────────────────────────────────────

-- the codes of a file: "2 to 10", and 17
abbrev pub ListCode : ℕ → Type 0
ListCode code = Within 2 10 code ⊎ (code ≡ AMBIGUOUS)

read_code : (code : ℕ) → Within 2 6 code → ListCode code
read_code code h = inl (h.0, omega (arith, h.1))

fault-code : (code node : ℕ) → Faulty (some (fault code node)) → ListCode code
fault-code code node h = ⊎_elim (λ w. inl (omega (arith, w.0), w.1)) inr h

list-some : (code : ℕ) → ListCode code → 1 ≤ code
list-some code h = ⊎_elim (λ w. omega (arith, w.0)) (λ e. omega arith) h

-- the code of a refusal, if it is one
abbrev pub Refusing : (ℕ → Type 0) → Outcome → Type 0
Refusing P (refuses code place) = P code
Refusing P (yields bs) = Unit {0}

faultless_coded : (bs : List ℕ) (f : Option Fault) → Faulty f → Refusing ListCode (faultless bs f)
unfolding faultless
faultless_coded bs none h = tt
faultless_coded bs (some (fault code node)) h = fault-code code node h

accepted_coded : (make : Source → List ℕ) (r : Res Source) → Coded r → Refusing ListCode (accepted make r)
unfolding accepted
accepted_coded make (ok s next tags nodes) h = faultless_coded (make s) _ (check_coded s.catalogue s.plan 0)
accepted_coded make (bad code place) h = read_code code h

-- request 1: "Refusals: 2 to 10, then 13."
pub list_coded : (file : List ℕ) → Refusing ListCode (list_of file)
unfolding list_of
list_coded file = accepted_coded _ (read_file file) (reading_coded file)

-- the refusals of a catalogue are those of a file that begins with it, and TAIL
tables_coded : (file : List ℕ) → Coded (read_tables file 0 0 0)
unfolding read_tables read_source read_end read_mark read_mark1
tables_coded file = mark (starts (mark_bytes version1) file) (reading_coded file)
  where
    end : (C : Catalogue) (at t n : ℕ) → Coded ((read_end >>= λ z. give C) file at t n)
    end C at t n = go (eqb at (length file))
      where
        go : (b : Bool) → Coded (and_then {A = ℕ} (pick b (ok 0 at t n) (bad TAIL at)) λ z at' t' n'. ok C at' t' n')
        go true = tt
        go false = (omega arith, omega arith)

    -- what read_source does after the catalogue
    onward : Catalogue → ℕ → ℕ → ℕ → Res Source
    onward C at t n = (plan_to C (suc max_nodes) >>= λ p. read_end >>= λ z. give (record { catalogue = C; plan = p })) file at t n

    other : Res Version
    other = pick (starts (mark_bytes version2) file) (ok version2 5 0 0) (bad MARK 0)

    tables : (r : Res Catalogue) → Coded (and_then r onward) → Coded (and_then r λ C at t n. (read_end >>= λ z. give C) file at t n)
    tables (ok C at t n) h = end C at t n
    tables (bad code place) h = h

    mark : (b : Bool) → Coded (and_then (pick b (ok version1 5 0 0) other) λ v at t n. and_then (read_catalogue v file at t n) onward) →
        Coded (and_then (pick b (ok version1 5 0 0) (bad MARK 0)) λ v at t n. and_then (read_catalogue v file at t n) λ C at t n. (read_end >>= λ z. give C) file at t n)
    mark true h = tables (read_catalogue version1 file 5 0 0) h
    mark false h = (omega arith, omega arith)

abbrev WeighedCoded : Weighed → Type 0
WeighedCoded (fine tags) = Unit {0}
WeighedCoded (unmet code) = Within 4 5 code

choose : (b : Bool) (v w : Weighed) → WeighedCoded v → WeighedCoded w → WeighedCoded (pick b v w)
choose true v w h k = h
choose false v w h k = k

weigh_coded : (ds : List Demand) (t : ℕ) → WeighedCoded (weigh t ds)
unfolding weigh
weigh_coded [] t = tt
weigh_coded (allowed b ∷ ds) t = choose b _ _ (weigh_coded ds t) (omega arith, omega arith)
weigh_coded (few b ∷ ds) t = choose b _ _ (weigh_coded ds t) (omega arith, omega arith)
weigh_coded (tagged ∷ ds) t = choose (ltb t max_tags) _ _ (weigh_coded ds (suc t)) (omega arith, omega arith)

abbrev Oversized : Option Fault → Type 0
Oversized none = Unit {0}
Oversized (some (fault code n)) = Within 4 5 code

size_coded : (C : Catalogue) (hs : List Head) (n t : ℕ) → Oversized (size_fault C n t hs)
unfolding size_fault or_fault
size_coded C [] n t = tt
size_coded C (h ∷ hs) n t = go (λ t'. size_coded C hs (suc n) t') (weigh t (few (leb n max_nodes) ∷ head_asks C h)) (weigh_coded (few (leb n max_nodes) ∷ head_asks C h) t)
  where
    go : ((t' : ℕ) → Oversized (size_fault C (suc n) t' hs)) → (w : Weighed) → WeighedCoded w → Oversized (or_fault n w (λ t'. size_fault C (suc n) t' hs))
    go self (fine t') h = self t'
    go self (unmet code) h = h

-- those of a file, or 19
abbrev pub ReadCode : ℕ → Type 0
ReadCode code = ListCode code ⊎ (code ≡ LINE)

abbrev wider : (v : Outcome) → Refusing ListCode v → Refusing ReadCode v
wider (refuses code place) h = inl h
wider (yields bs) h = tt

sized_coded : (catalogue : List ℕ) (hs : List Head) (f : Option Fault) → Oversized f → Refusing ReadCode (sized catalogue hs f)
unfolding sized file_outcome
sized_coded catalogue hs none h =
    let file = catalogue ++ concat_map (node_bytes version1) hs in
    wider (accepted (λ s. file) (read_file file)) (accepted_coded (λ s. file) (read_file file) (reading_coded file))
sized_coded catalogue hs (some (fault code n)) h = inl (read_code code (omega (arith, h.0), omega (arith, h.1)))

lined_coded : (catalogue : List ℕ) (C : Catalogue) (f : Formed) → Refusing ReadCode (lined catalogue C f)
unfolding lined
lined_coded catalogue C (formed hs) = sized_coded catalogue hs _ (size_coded C hs 1 0)
lined_coded catalogue C (broken n) = inr refl

tabled_coded : (catalogue text : List ℕ) (r : Res Catalogue) → Coded r → Refusing ReadCode (tabled catalogue text r)
unfolding tabled
tabled_coded catalogue text (ok C next tags nodes) h = lined_coded catalogue C _
tabled_coded catalogue text (bad code place) h = inl (read_code code h)

-- request 13: "2 to 5 for the catalogue, then 6 …; then … 19 LINE …; then 4 and 5; then 7 to 10 …, and 13"
pub read_coded : (catalogue text : List ℕ) → Refusing ReadCode (read_listing catalogue text)
unfolding read_listing
read_coded catalogue text = tabled_coded catalogue text (read_tables catalogue 0 0 0) (tables_coded catalogue)

-- ── the buffer ──────────────────────────────────────────────────────────────────────────────

refusal_buffered : (code place : ℕ) (out : List ℕ) → 1 ≤ code → Buffered out (refusal code place out)
unfolding refusal
refusal_buffered code place out h = record { refused-keeps = λ n. (refl, refl); past-stays = λ e. absurd (omega arith); as_long = refl }

success_buffered : (bs out : List ℕ) → length bs ≤ length out → Buffered out (success bs out)
unfolding success
success_buffered bs out l =
    record {
      refused-keeps = λ n. absurd (n refl);
      past-stays = λ e. (drop-append_seam bs (drop (length bs) out), refl, l);
      as_long = length-append bs (drop (length bs) out) ∙ omega (arith, length-drop (length bs) out);
    }

written_buffered : (bs out : List ℕ) → Buffered out (written bs out)
unfolding written
written_buffered bs out = go (leb (length bs) (length out)) (λ t. t)
  where
    go : (b : Bool) → (T b → T (leb (length bs) (length out))) → Buffered out (pick b (success bs out) (refusal ROOM (length bs) out))
    go true t = success_buffered bs out (leb→le _ _ (t tt))
    go false t = refusal_buffered ROOM (length bs) out (omega arith)

pub delivered_buffered : (v : Outcome) (out : List ℕ) → Refusing (λ code. 1 ≤ code) v → Buffered out (delivered v out)
unfolding delivered
delivered_buffered (refuses code place) out h = refusal_buffered code place out h
delivered_buffered (yields bs) out h = written_buffered bs out

some-list : (v : Outcome) → Refusing ListCode v → Refusing (λ code. 1 ≤ code) v
some-list (refuses code place) h = list-some code h
some-list (yields bs) h = tt

some_read : (v : Outcome) → Refusing ReadCode v → Refusing (λ code. 1 ≤ code) v
some_read (refuses code place) (inl h) = list-some code h
some_read (refuses code place) (inr e) = omega arith
some_read (yields bs) h = tt

-- "A refusal has length 0 and changes no byte of the output. On success the bytes past the length stay."
pub list_buffered : (file out : List ℕ) → Buffered out (list_answer file out)
unfolding list_answer
list_buffered file out = delivered_buffered (list_of file) out (some-list (list_of file) (list_coded file))

pub read_buffered : (catalogue text out : List ℕ) → Buffered out (read_answer catalogue text out)
unfolding read_answer
read_buffered catalogue text out = delivered_buffered (read_listing catalogue text) out (some_read (read_listing catalogue text) (read_coded catalogue text))
