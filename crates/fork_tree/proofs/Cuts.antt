-- Ways to the head, and the blocks of them that are gone.
use Rattle.std.proofs.Common.{◌≡◌, ℕ, ◌≤◌, ◌<◌, ◌-◌, List, [], ◌∷◌, ◌++◌, length, map, get_or, sym, ◌∙◌, ap, arith}
use Rattle.std.specs.Prelude.{slice_index_or, unwrap_or}
use Rattle.std.specs.List.{AllByRecursion}
use Rattle.std.proofs.lemmas.List.{append-nil, append_assoc}
use Rattle.byte_model.proofs.Lists.{AllByRecursion-append}
use Rattle.fork_model.specs.Trees.{BlockTree, Header, IsTree, ids_of, line}
use Rattle.fork_model.specs.Laws.{first_id}
use Rattle.fork_tree.specs.Kept.{AreLinked, IsCut, IsLinked, Stands, headers, id_at, place_of, prev_at, tree_of, way}
use Rattle.fork_tree.specs.declared.block.Block.{Block}
use Rattle.fork_tree.specs.declared.links.Links.{Links}
use Rattle.fork_tree.proofs.Apart.{line-at, places_apart}
use Rattle.fork_tree.proofs.Before.{links-at}

pub all-weaker : {X : Type 0} {P Q : X → Type 0} → ((x : X) → P x → Q x) → (xs : List X) → AllByRecursion P xs → AllByRecursion Q xs
all-weaker weaker [] all = all
all-weaker weaker (x ∷ xs) all = (weaker x all.0, all-weaker weaker xs all.1)

pub cut-start : (blocks : List Block) (start reach : ℕ) → IsCut blocks start start reach
cut-start blocks start reach = record { beyond = []; parts = sym (append-nil (way blocks start)); later = tt }

pub cut-less : (blocks : List Block) (start at reach place : ℕ) → place ≤ reach → IsCut blocks start at reach → IsCut blocks start at place
cut-less blocks start at reach place less cut = record {
  beyond = cut.beyond;
  parts = cut.parts;
  later = all-weaker (λ q s. record { place = s.place; is = s.is; holds = from_parts s.place s.holds }) cut.beyond cut.later;
}
  where
    from_parts : (p : ℕ) → reach < p → place < p
    from_parts p h = omega (arith, less, h)

-- one part of a way, and then another
pub cut-over : (blocks : List Block) (start at next place : ℕ) → place ≤ next → IsCut blocks start at place → IsCut blocks at next next → IsCut blocks start next place
cut-over blocks start at next place less first second =
    let far = cut-less blocks at next next place less second in
    record {
      beyond = far.beyond ++ first.beyond;
      parts = first.parts ∙ ap (λ ids. ids ++ first.beyond) far.parts ∙ append_assoc (way blocks next) far.beyond first.beyond;
      later = AllByRecursion-append (Stands blocks (λ p. place < p)) far.beyond first.beyond far.later first.later;
    }

-- two jumps
pub cut-twice : (blocks : List Block) (start at next : ℕ) → next ≤ at → IsCut blocks start at at → IsCut blocks at next next → IsCut blocks start next next
cut-twice blocks start at next less first second = cut-over blocks start at next next (omega arith) (cut-less blocks start at at next less first) second

-- the jump of the block at a place, and the one behind it
module _ (blocks : List Block) (count place : ℕ) (d e : Block) (linked : AreLinked blocks count) (within : place < length blocks) (counted : place < count) where
  pub first-back : (get_or blocks place d).links.jump ≤ place - 1
  first-back = (links-at blocks count linked place d within counted).back

  second-link : IsLinked blocks (get_or blocks place d).links.jump (get_or blocks (get_or blocks place d).links.jump e).links
  second-link = links-at blocks count linked (get_or blocks place d).links.jump e (omega (arith, first-back, within)) (omega (arith, first-back, counted))

  pub second-back : (get_or blocks (get_or blocks place d).links.jump e).links.jump ≤ place
  second-back = let b = second-link.back in omega (arith, b, first-back)

  pub second-within : (get_or blocks (get_or blocks place d).links.jump e).links.jump < length blocks
  second-within = omega (arith, second-back, within)

  pub second-cut : IsCut blocks place (get_or blocks (get_or blocks place d).links.jump e).links.jump (get_or blocks (get_or blocks place d).links.jump e).links.jump
  second-cut = cut-twice blocks place (get_or blocks place d).links.jump (get_or blocks (get_or blocks place d).links.jump e).links.jump (let b = second-link.back in omega (arith, b)) (links-at blocks count linked place d within counted).cut second-link.cut

module _ (blocks : List Block) (tree : IsTree (tree_of blocks)) where
  pub cut-step : (start at prev place : ℕ) → at < length blocks → place < at → id_at blocks prev ≡ prev_at blocks at → IsCut blocks start at place → IsCut blocks start prev place
  cut-step start at prev place within behind is cut = record {
    beyond = id_at blocks at ∷ cut.beyond;
    parts = cut.parts
        ∙ ap (λ ids. ids ++ cut.beyond) (line-at blocks tree at within (omega (arith, behind)) ∙ ap (λ q. line (tree_of blocks) q ++ id_at blocks at ∷ []) (sym is))
        ∙ append_assoc (way blocks prev) (id_at blocks at ∷ []) cut.beyond;
    later = (record { place = at; is = places_apart blocks tree at within; holds = behind }, cut.later);
  }

  -- what links a block to the one on which it stands
  pub linked-over : (place before : ℕ) (links : Links) → place < length blocks → before < place → id_at blocks before ≡ prev_at blocks place → links.before ≡ before → links.jump ≤ before → IsCut blocks before links.jump links.jump → IsLinked blocks place links
  linked-over place before links within earlier prev is back cut = record {
    earlier = λ _. omega (arith, earlier, is);
    prev = λ _. ap (id_at blocks) is ∙ prev;
    back = omega (arith, earlier, back);
    cut = cut-over blocks place before links.jump links.jump (omega arith) (cut-step place place before links.jump within (omega (arith, earlier, back)) prev (cut-start blocks place links.jump)) cut;
  }

-- ---- blocks with the same headers

module _ (blocks others : List Block) (same : headers blocks ≡ headers others) where
  way-same : (place : ℕ) → way blocks place ≡ way others place
  way-same place =
      let Shown : List ℕ → List Header → BlockTree = λ h bs. record { head = h; blocks = bs } in
      ap (λ (hs : List Header). line (Shown (unwrap_or (first_id hs) []) hs) (slice_index_or (ids_of hs) place [])) same

  cut-same : (start at reach : ℕ) → IsCut blocks start at reach → IsCut others start at reach
  cut-same start at reach cut = record {
    beyond = cut.beyond;
    parts = sym (way-same start) ∙ cut.parts ∙ ap (λ ids. ids ++ cut.beyond) (way-same at);
    later = all-weaker (λ q s. record { place = s.place; is = ap (λ (hs : List Header). place_of hs q) (sym same) ∙ s.is; holds = s.holds }) cut.beyond cut.later;
  }

  pub linked-same : (place : ℕ) (links : Links) → IsLinked blocks place links → IsLinked others place links
  linked-same place links link = record {
    earlier = link.earlier;
    prev = λ behind. ap (λ (hs : List Header). slice_index_or (ids_of hs) links.before []) (sym same) ∙ link.prev behind ∙ ap (λ (hs : List Header). slice_index_or (map (λ h. h.prev) hs) place []) same;
    back = link.back;
    cut = cut-same place links.jump links.jump link.cut;
  }
