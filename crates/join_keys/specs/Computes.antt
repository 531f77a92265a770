-- One name for all definitions that run, those of cpl, rules and meaning with them: a proof by computation says `unfolding keys_compute`.
use Rattle.meaning.specs.Computes.{meaning_computes}
use Rattle.join_keys.specs.Keys.{is_pair, contains, added, insert, insert_all, insert_intersection}
use Rattle.join_keys.specs.Extract.{extract_possible_join_keys}
use Rattle.join_keys.specs.Remove.{left_of_and, left_of_or, remove_join_expressions}
use Rattle.join_keys.specs.Match.{mirror}
use Rattle.join_keys.specs.Unlimited.{insert_free, insert_all_free, intersect_free, extract_free, widest, up_to64}
use Rattle.join_keys.specs.Flat.{equalities}
use Rattle.join_keys.specs.Entries.{whole, answered, join_keys, without_keys}

unfoldable pub keys_compute : Unit {0}
unfolding meaning_computes is_pair contains added insert insert_all insert_intersection extract_possible_join_keys left_of_and left_of_or remove_join_expressions mirror insert_free insert_all_free intersect_free extract_free widest up_to64 equalities whole answered join_keys without_keys
keys_compute = tt
