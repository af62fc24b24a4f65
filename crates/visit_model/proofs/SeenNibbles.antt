-- Where all texts are bytes, the paths that are seen are nibbles.
use Rattle.std.proofs.Common.{◌≡◌, ℕ, List, Ok}
use Rattle.std.specs.List.{AllByRecursion}
use Rattle.std.proofs.lemmas.Result.{IfOk-at_ok}
use Rattle.byte_model.specs.Nibbles.{AreBytes, AreNibbles}
use Rattle.byte_model.proofs.Digits.{AreNibbles-append}
use Rattle.byte_model.specs.Node as node
use Rattle.byte_model.specs.Node.{Node}
use Rattle.byte_model.specs.Laws.{FitsRecord}
use Rattle.record_model.specs.Records.{IsRecord, HasNibblesOnly, record_in}
use Rattle.record_model.proofs.Nodes.{record_in-found}
use Rattle.trie_model.specs.Root.{Table}
use Rattle.visit_model.specs.Keys.{AreByteTexts}
use Rattle.visit_model.specs.Seen.{seen}
use Rattle.visit_model.proofs.Rows.{named_in}
use Rattle.visit_model.proofs.SeenValues.{all_seen}

-- the parts of a node that bytes spell fit their fields
parts_fit : (bytes : List ℕ) (n : Node) (usage : ℕ) → AreBytes bytes → record_in bytes ≡ Ok (n, usage) → FitsRecord n
parts_fit bytes n usage h e =
    let read : IsRecord n usage bytes × HasNibblesOnly n = IfOk-at_ok (λ r. IsRecord r.0 r.1 bytes × HasNibblesOnly r.0) e (record_in-found bytes h).given in
    read.0.fields

pub nibbles-seen : (table : Table) (root : List ℕ) → AreByteTexts table → AllByRecursion (λ name. AreNibbles name.0) (named_in (seen table root))
nibbles-seen table root bytes = all_seen table (λ depth name. AreNibbles name.0) (record {
  leaf = λ depth after_extension path ref h. (parts_fit h.text (node.leaf path ref) h.usage (bytes h.digest h.text h.held) h.spells).0;
  here = λ depth after_extension ref kids h. tt;
  in_branch = λ depth x name small k. (small, k);
  in_extension = λ depth after_extension path child h name k. AreNibbles-append path name.0 (parts_fit h.text (node.extension path child) h.usage (bytes h.digest h.text h.held) h.spells).0 k;
}) root
