-- How a batch ended, by its answer.
use Rattle.std.specs.Prelude.{Result, Ok, Err}
use Rattle.base_core.specs.Faults.{Ended, done, refused, failed, short_of_memory}
use Rattle.trie_update.specs.declared.errors.UpdateError.{UpdateError}
use Rattle.trie_update.specs.declared.errors.UpdateError.TheVariants.{Missing, Bad, Usage, Clash, Fault, NoMemory}

abbrev pub by_error : UpdateError → Ended
by_error (Missing digest) = refused
by_error (Bad digest) = refused
by_error (Usage digest) = refused
by_error (Clash digest one other) = refused
by_error Fault = failed
by_error NoMemory = short_of_memory

abbrev pub update_ended : {X : Type 0} → Result X UpdateError → Ended
update_ended (Ok found) = done
update_ended (Err error) = by_error error
