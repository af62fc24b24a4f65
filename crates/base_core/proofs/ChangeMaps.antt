-- What a key becomes, as one change.
use Rattle.std.proofs.Common.{ℕ, ◌≤◌, List, [], length, Option, Some, None}
use Rattle.std.specs.Option.{unwrap_or}
use Rattle.byte_model.specs.Nibbles.{AreBytes}
use Rattle.byte_model.specs.Node.{longest_value}
use Rattle.trie_model.specs.State.{longest_key}
use Rattle.batch_model.specs.Changes.{IsChange}

pub change_of : (key : List ℕ) (value : Option (List ℕ)) → AreBytes key → length key ≤ longest_key → AreBytes (unwrap_or value []) → length (unwrap_or value []) ≤ longest_value → IsChange (key, value)
change_of key None bytes short value_bytes short_value = record { key = bytes; key_length = short; value = tt; value_length = tt }
change_of key (Some value) bytes short value_bytes short_value = record { key = bytes; key_length = short; value = value_bytes; value_length = short_value }
