-- `version_at` meets its contract. Assumes nothing.
use Rattle.reader.proofs.Files.{known_1, no_mark, same_mark}
use Rattle.reader.proofs.version_at.Goals as goal

pub returns-in-Some : goal.returns-in-Some
returns-in-Some c =
    let h = rw c.in-Some.is at c.read_mark.ensures in
    (λ v e. same_mark _ h.0 e, h.1)

pub returns-in-None : goal.returns-in-None
returns-in-None c =
    let h = rw c.in-None.is at c.read_mark.ensures in
    (λ v e. absurd (no_mark _ h e), known_1 c.version1.result c.version1.ensures)
