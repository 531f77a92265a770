-- `read_fresh` meets its contract. Assumes nothing.
use Rattle.std.proofs.lemmas.Result.{err_from_is_err_and}
use Rattle.cpl.specs.Read.{fresh}
use Rattle.reader_fields.proofs.Laws.{value-bad, value_no, value-ok}
use Rattle.catalogue.proofs.Keys.{fresh-past, fresh-taken, fresh_yes}
use mathlib.Core.Path.{◌∙◌, sym}
use Rattle.catalogue.proofs.read_fresh.Goals as goal

pub returns-in_err-found : goal.returns-in_err-found
returns-in_err-found c =
    let p = err_from_is_err_and c.from_residual.result c.from_residual.ensures.1 in
    record { by_index = λ xs st. rw (p.1, p.2) (value-bad _ _ _ (fresh c.args.n xs) c.in_err-found.ensures); fresh_in = rw p.1 tt }

pub returns-then-n-found : goal.returns-then-n-found
returns-then-n-found c = record {
  by_index = λ xs st. rw (c.new.ensures.0, c.new.ensures.1) (value_no _ _ _ (fresh c.args.n xs) c.in_ok-found.ensures.0 (fresh-past _ xs _ c.if-n-found.true));
  fresh_in = tt;
}

pub returns-then-contains : goal.returns-then-contains
returns-then-contains c = record {
  by_index = λ xs st.
      rw (c.new-then-contains.ensures.0, c.new-then-contains.ensures.1)
      (value_no _ _ _ (fresh c.args.n xs) c.in_ok-found.ensures.0 (fresh-taken _ xs _ c.if-n-found.false c.if-contains.true (c.contains.ensures ∙ st _)));
  fresh_in = tt;
}

pub returns : goal.returns
returns c = record {
  by_index = λ xs st. (value-ok _ _ _ (fresh c.args.n xs) c.in_ok-found.ensures.0 (fresh_yes _ xs _ c.if-n-found.false c.if-contains.false (c.contains.ensures ∙ st _)), c.if-n-found.false);
  fresh_in = sym c.contains.ensures ∙ c.if-contains.false;
}
