use Rattle.writer_parts.proofs.+put_any.Given as goal

abbrev pub decreases-put_any : goal.decreases-put_any
decreases-put_any l = l.k
