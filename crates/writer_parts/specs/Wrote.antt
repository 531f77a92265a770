-- What a buffer holds once bytes were written at its start, and what is counted of bytes before they are written.
use Rattle.std.specs.Prelude.{◌≡◌, List, ◌++◌, ℕ, ◌+◌, ◌^◌, ◌<◌, length, take, drop}
use Rattle.writer_parts.specs.declared.Size.{Size}

-- w written over the start of xs
unfoldable pub over : List ℕ → List ℕ → List ℕ
over w xs = w ++ drop (length w) xs

-- xs became ys: w was written over its start, and w is r bytes long. What a writer answers, and how far it has come
pub record Wrote (w xs : List ℕ) (r : ℕ) (ys : List ℕ) : Type 0 where
  pub long : r ≡ length w
  pub ends : ys ≡ over w xs

-- xs became ys: the n bytes v were written over it from `at` on, up to r
pub record Laid (at : ℕ) (v : List ℕ) (n : ℕ) (xs : List ℕ) (r : ℕ) (ys : List ℕ) : Type 0 where
  pub long : r ≡ at + n
  pub size : length v ≡ n
  pub ends : ys ≡ take at xs ++ over v (drop at xs)

-- r counts b bytes and t tags
pub record Counts (b t : ℕ) (r : Size) : Type 0 where
  pub bytes_are : r.bytes ≡ b
  pub tags_are : r.tags ≡ t

-- b bytes and t tags can be counted
pub record Countable (b t : ℕ) : Type 0 where
  pub bytes_fit : b < 2 ^ 32
  pub tags_fit : t < 2 ^ 32
