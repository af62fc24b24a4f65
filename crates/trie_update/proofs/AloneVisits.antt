-- The visit of a place below which no key is changed.
use Rattle.std.proofs.Common.{◌≡◌, ◌≢◌, ℕ, ◌+◌, ◌-◌, ◌≤◌, ◌<◌, true, false, List, [], length, sym, ◌∙◌, ap, ap₂, subst, arith}
use Rattle.trie_model.specs.Root.{Table}
use Rattle.visit_model.specs.Seen.{Seen, seen_at, stated_usage}
use Rattle.change_model.specs.Along.{digest_of}
use Rattle.change_model.specs.Visits.{before, opened, closed, most_usage, visit_alone}
use Rattle.change_model.proofs.Seeing.{digest_of-seen_at}
use Rattle.base_core.specs.declared.hash.Digest.{Digest}
use Rattle.node_codec.specs.declared.node.Node as code
use Rattle.node_codec.specs.declared.node.Node.TheVariants.{Leaf, Branch, Extension}
use Rattle.update_model.specs.Sound.{StandsAt}
use Rattle.update_model.specs.Tops as top
use Rattle.update_model.specs.Updates.{digest_or_none, lost_alone, top_seen}
use Rattle.trie_update.specs.declared.visiting.Visited.{Visited}
use Rattle.trie_update.specs.Merges.{top_read, lost_read}
use Rattle.trie_update.proofs.SeenVisits.{SeesCopy}

-- ---- what is seen of a digest is named by it

-- ---- a place that was read

pub some_path : (path : List ℕ) → 0 < length path → path ≢ []
some_path path some none = let long = ap length none in absurd (omega arith)

module _ (table : Table) (depth : ℕ) (digest : Digest) (visited : Visited) where
  pub record ReadAlone : Type 0 where
    pub visits : visit_alone (seen_at table depth false digest.0) ≡ before (opened digest.0 visited.stated) (closed digest.0 visited.stated visited.own)
    pub top : top_read digest.0 visited.node visited.stated visited.own ≡ top_seen (seen_at table depth false digest.0)
    pub lost : lost_read digest.0 visited.node ≡ lost_alone (seen_at table depth false digest.0)
    pub stated : visited.stated ≡ stated_usage (seen_at table depth false digest.0)
    pub stands : StandsAt depth (top_seen (seen_at table depth false digest.0))
    pub most : visited.stated ≤ most_usage

  pub read-alone : (copy : code.Node) → visited.node ≡ copy → SeesCopy table depth false digest visited copy → ReadAlone
  unfolding visit_alone top_seen lost_alone stated_usage StandsAt
  read-alone (Leaf path value) e sees =
      let s = sees.seen in
      record {
        visits = ap visit_alone s ∙ ap (λ n. before (opened digest.0 visited.stated) (closed digest.0 visited.stated n)) (sym sees.own);
        top = ap (λ (n : code.Node). top_read digest.0 n visited.stated visited.own) e ∙ sym (ap top_seen s);
        lost = ap (lost_read digest.0) e ∙ sym (ap lost_alone s);
        stated = sym (ap stated_usage s);
        stands = subst (λ (t : Seen). StandsAt depth (top_seen t)) (sym s) (sees.nibbles, sees.room, sees.small);
        most = sees.most;
      }
  read-alone (Branch value kids) e sees =
      let s = sees.seen in
      record {
        visits = ap visit_alone s ∙ ap (λ n. before (opened digest.0 visited.stated) (closed digest.0 visited.stated n)) (sym sees.own);
        top = ap (λ (n : code.Node). top_read digest.0 n visited.stated visited.own) e ∙ sym (ap top_seen s);
        lost = ap (lost_read digest.0) e ∙ sym (ap lost_alone s);
        stated = sym (ap stated_usage s);
        stands = subst (λ (t : Seen). StandsAt depth (top_seen t)) (sym s) (let room = sees.room in omega arith);
        most = sees.most;
      }
  read-alone (Extension path child) e sees =
      let s = sees.seen in
      let name : digest_or_none (digest_of (seen_at table (depth + length path) true child.0)) ≡ child.0 = ap digest_or_none (digest_of-seen_at table (depth + length path) true child.0) in
      let room = sees.room in
      record {
        visits = ap visit_alone s ∙ ap (λ n. before (opened digest.0 visited.stated) (closed digest.0 visited.stated n)) (sym sees.own);
        top = ap (λ (n : code.Node). top_read digest.0 n visited.stated visited.own) e ∙ ap₂ (λ (d : List ℕ) (n : ℕ). top.extension path d (visited.stated - n)) (sym name) sees.own ∙ sym (ap top_seen s);
        lost = ap (lost_read digest.0) e ∙ sym (ap lost_alone s);
        stated = sym (ap stated_usage s);
        stands = subst (λ (t : Seen). StandsAt depth (top_seen t)) (sym s) (sees.nibbles, omega arith, some_path path sees.some);
        most = sees.most;
      }
