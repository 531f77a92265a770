-- What a call writes, byte by byte, for every input: the entry that the input names, its arguments, and its answer as a line of numbers and the bytes
-- behind it. An argument is a function of the input and the offset where it stands: past the end of the input numbers are 0, files and requests shorter.
use Rattle.std.specs.Prelude.{List, [], ◌∷◌, ◌++◌, map, ℕ, ◌+◌, ◌*◌, ◌-◌, ◌/◌, min, length, get_or, take, drop, replicate}
use Rattle.cpl.specs.Read.{little}
use Rattle.cpl.specs.ReadPlan.{read_file}
use Rattle.cpl.specs.Tests.{concat_map, iota}
use Rattle.rules.specs.Answer.{Answer, answer, answer_all, refusal, success}
use Rattle.rules.specs.Check.{Checked, Finding, accepted, check_file, faulty, finding}
use Rattle.rules.specs.Success.{wrote}
use Rattle.join_keys.specs.Entries.{join_keys_answer, without_keys_answer}
use Rattle.plan_text.specs.Answers.{list_answer}
use Rattle.plan_text.specs.Decimal.{decimal}
use Rattle.listing.specs.Text.{most_read, newline, plan_text, space}

-- ── arguments ───────────────────────────────────────────────────────────────────────────────

-- a file, a predicate or keys: its length in four bytes, then its bytes, of which so many are looked at
unfoldable pub file_in : (input : List ℕ) (at : ℕ) → List ℕ
file_in input at = take (min (little 4 input at) most_read) (drop (at + 4) input)

-- the offset behind it
abbrev pub behind_file : (input : List ℕ) (at : ℕ) → ℕ
behind_file input at = at + 4 + little 4 input at

-- how many indices of a request the input has: its length in four bytes says how many there are, each in two bytes
unfoldable pub count_in : (input : List ℕ) (at : ℕ) → ℕ
count_in input at = min (little 4 input at) ((length input - (at + 4)) / 2)

unfoldable pub request_in : (input : List ℕ) (at : ℕ) → List ℕ
request_in input at = map (λ k. little 2 input (at + 4 + 2 * k)) (iota 0 (count_in input at))

abbrev pub behind_request : (input : List ℕ) (at : ℕ) → ℕ
behind_request input at = at + 4 + 2 * little 4 input at

-- of a longer request so many are read: it is refused at one of them, see proofs/Requests
abbrev pub most_asked : ℕ
most_asked = 513

-- an output of the length in four bytes, and of no more than so many
abbrev pub most_lent : ℕ
most_lent = 65536

unfoldable pub out_in : (input : List ℕ) (at : ℕ) → List ℕ
out_in input at = replicate (min (little 4 input at) most_lent) 0

-- ── answers ─────────────────────────────────────────────────────────────────────────────────

-- numbers in a line, in decimal, with a space between them
unfoldable pub spaced : List ℕ → List ℕ
spaced ns = concat_map (λ n. space ++ decimal n) ns

unfoldable pub joined : List ℕ → List ℕ
joined [] = []
joined (n ∷ ns) = decimal n ++ spaced ns

unfoldable pub numbers_text : List ℕ → List ℕ
numbers_text ns = joined ns ++ newline

-- a line with a code, how many bytes there are and a place; then the bytes
unfoldable pub text_of : (code place : ℕ) (bytes : List ℕ) → List ℕ
text_of code place bytes = numbers_text (code ∷ length bytes ∷ place ∷ []) ++ bytes

-- an answer's code, length and place, and the bytes that it wrote
unfoldable pub said : Answer → List ℕ
said a = numbers_text (a.code ∷ a.length ∷ a.place ∷ []) ++ wrote a

-- ── entries ─────────────────────────────────────────────────────────────────────────────────

-- mode, mask, file, request, length of the output
unfoldable pub prune_text : (input : List ℕ) → List ℕ
prune_text input =
    let at = behind_file input 4 in
    said (answer (get_or input 1 0) (little 2 input 2) (file_in input 4) (request_in input at) (out_in input (behind_request input at)))

-- mode, mask, file, length of the output
unfoldable pub prune_all_text : (input : List ℕ) → List ℕ
prune_all_text input = said (answer_all (get_or input 1 0) (little 2 input 2) (file_in input 4) (out_in input (behind_file input 4)))

-- what is said of a file: code, place, nodes and fields in a line, and nothing behind it
unfoldable pub checked_text : Checked → List ℕ
checked_text c = numbers_text (c.code ∷ c.place ∷ c.nodes ∷ c.fields ∷ [])

-- file
unfoldable pub check_text : (input : List ℕ) → List ℕ
check_text input = checked_text (check_file (file_in input 1))

-- predicate, length of the output
unfoldable pub join_keys_text : (input : List ℕ) → List ℕ
join_keys_text input = said (join_keys_answer (file_in input 1) (out_in input (behind_file input 1)))

-- predicate, keys, length of the output
unfoldable pub without_keys_text : (input : List ℕ) → List ℕ
without_keys_text input =
    let at = behind_file input 1 in
    said (without_keys_answer (file_in input 1) (file_in input at) (out_in input (behind_file input at)))

-- a file's listing, or its refusal
unfoldable pub listed : Finding → Answer
listed (accepted C p) = success (plan_text C p) []
listed (faulty code place) = refusal code place []

-- file
unfoldable pub list_call_text : (input : List ℕ) → List ℕ
list_call_text input = said (listed (finding (read_file (file_in input 1))))

-- file, length of the output
unfoldable pub list_plan_text : (input : List ℕ) → List ℕ
list_plan_text input = said (list_answer (file_in input 1) (out_in input (behind_file input 1)))

-- no entry
unfoldable pub no_text : (input : List ℕ) → List ℕ
no_text input = []

-- the entries, each at its number
unfoldable pub entries : List (List ℕ → List ℕ)
entries = prune_text ∷ prune_all_text ∷ check_text ∷ join_keys_text ∷ without_keys_text ∷ list_call_text ∷ list_plan_text ∷ []

-- the entry of a number
unfoldable pub entry_text : (number : ℕ) (input : List ℕ) → List ℕ
entry_text number = get_or entries number no_text

-- all that is written
unfoldable pub call_text : (input : List ℕ) → List ℕ
call_text input = entry_text (get_or input 0 0) input
