use Rattle.std.proofs.Common.{◌≡◌, ◌++◌, vec_items}
use Rattle.text.specs.Texts.{words_left}
use Rattle.bed.specs.Words.{making}
use Rattle.script.specs.Lines.{block_words}
use Rattle.script.proofs.read.block.Given as goal

-- the words so far, and then those that are to be read, are those of the block
abbrev pub invariant-loop-word : goal.invariant-loop-word
invariant-loop-word l = making (λ vs. vec_items l.block ++ vs) (block_words (words_left l.word-iterator)) ≡ block_words (words_left l.fn.words)
