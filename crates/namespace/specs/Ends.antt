-- How a change over lower names ends, and what the state of a namespace keeps.
use Rattle.std.specs.Prelude.{ℕ, ◌≡◌, ◌⊎◌}
use Rattle.answer_model.specs.Count.{Rose}
use Rattle.tree_model.specs.declared.call.TreeReply.{TreeReply}
use Rattle.tree_model.specs.declared.call.TreeReply.TheVariants as replies
use Rattle.tree_model.specs.declared.change.Change.{Change}
use Rattle.tree_model.specs.PlainTree.{PlainTree, changed, reply_of}

-- It is made, or the tree stays; at a fault the count rose, and else it stays.
abbrev pub Ends : TreeReply → ℕ → ℕ → PlainTree → Change → PlainTree → Type 0
Ends replies.Memory before after old change new = (after ≡ before) × (new ≡ old)
Ends replies.LowerFault before after old change new = Rose before after × (new ≡ old)
Ends reply before after old change new = (after ≡ before) × (reply ≡ reply_of old change) × (new ≡ changed old change)

-- a reply with names
abbrev pub HasNames : TreeReply → Type 0
HasNames (replies.Names names) = Unit {0}
HasNames (replies.Node node) = ⊥
HasNames replies.Done = ⊥
HasNames (replies.Info kind node) = ⊥
HasNames (replies.Refused refusal) = ⊥
HasNames replies.LowerFault = ⊥
HasNames replies.Memory = ⊥

-- what is told of a reply: itself, or want of memory where it has names to be copied
abbrev pub Tells : TreeReply → TreeReply → Type 0
Tells told reply = (told ≡ reply) ⊎ ((told ≡ replies.Memory) × HasNames reply)
