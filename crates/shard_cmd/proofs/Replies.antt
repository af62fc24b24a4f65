-- The replies to a script.
use Rattle.std.proofs.Common.{◌≡◌, ℕ, List, [], ◌∷◌, ◌++◌, Option, Some, None, Result, Ok, Err, IfSome, IfOk, refl, sym, subst, ◌∙◌}
use Rattle.std.specs.Prelude.{codes}
use Rattle.std.specs.Fmt.{decimal}
use Rattle.hex.specs.Hex.{encode_lower}
use Rattle.script_model.specs.Lines.{line_feed}
use Rattle.trie_model.specs.State.{State}
use Rattle.trie_model.specs.Root as trie
use Rattle.output_model.specs.Ends.{Output, RunLimits}
use Rattle.output_model.specs.Root.{root_line, root_done, root_output}
use Rattle.shard_cmd.specs.declared.reply.Reply.{Reply}
use Rattle.shard_cmd.specs.declared.root.End.{End}
use Rattle.shard_cmd.specs.declared.status.Status.TheVariants.{Done}
use Rattle.shard_cmd.specs.Events.{end_output}
use Rattle.shard_cmd.specs.Replies.{IsReply}

abbrev line : List ℕ → ℕ → List ℕ
line root usage = codes "root " ++ encode_lower root ++ codes " " ++ decimal usage ++ line_feed ∷ []

line-root_line : (state : State) (root : List ℕ) (usage : ℕ) → root ≡ trie.root state → usage ≡ trie.total state → line root usage ≡ root_line state
unfolding root_line
line-root_line state root usage r u = rw (r, u) refl

pub built_reply : {E : Type 0} (state : State) (root : List ℕ) (usage : ℕ) (result : Result Reply E) → root ≡ trie.root state → usage ≡ trie.total state
    → IfOk result (λ reply. reply.bytes ≡ line root usage) → IfOk result (λ reply. reply.status ≡ Done) → IfOk result (IsReply (root_done state))
built_reply state root usage (Ok reply) r u bytes status = record { bytes = bytes ∙ line-root_line state root usage r u; ending = rw status refl }
built_reply state root usage (Err f) r u bytes status = tt

pub replies_to : (left : Option (List ℕ)) (limits : RunLimits) (end : End) (state : State) (reply : Reply) → IfSome left (λ input. root_output limits input ≡ end_output end state) → IsReply (end_output end state) reply
    → IfSome left (λ input. IsReply (root_output limits input) reply)
replies_to None limits end state reply same is = tt
replies_to (Some input) limits end state reply same is = subst (λ (output : Output). IsReply output reply) (sym same) is
