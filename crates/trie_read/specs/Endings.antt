-- How a reading ended, by its answer.
use Rattle.std.specs.Prelude.{Result, Ok, Err}
use Rattle.base_core.specs.Faults.{Ended, done, refused, failed, short_of_memory}
use Rattle.trie_read.specs.declared.errors.ReadError.{ReadError}
use Rattle.trie_read.specs.declared.errors.ReadError.TheVariants as read
use Rattle.trie_read.specs.declared.errors.ListError.{ListError}
use Rattle.trie_read.specs.declared.errors.ListError.TheVariants as list

abbrev pub by_error : ReadError → Ended
by_error (read.Missing digest) = refused
by_error (read.Bad digest) = refused
by_error read.Fault = failed

abbrev pub read_ended : {X : Type 0} → Result X ReadError → Ended
read_ended (Ok found) = done
read_ended (Err error) = by_error error

abbrev pub by_list_error : ListError → Ended
by_list_error (list.Missing digest) = refused
by_list_error (list.Bad digest) = refused
by_list_error list.Fault = failed
by_list_error list.NoMemory = short_of_memory

abbrev pub list_ended : {X : Type 0} → Result X ListError → Ended
list_ended (Ok pairs) = done
list_ended (Err error) = by_list_error error

-- an error of a reading as that of a listing
abbrev pub as_listed : ReadError → ListError
as_listed (read.Missing digest) = list.Missing digest
as_listed (read.Bad digest) = list.Bad digest
as_listed read.Fault = list.Fault
