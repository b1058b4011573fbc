use Rattle.std.proofs.Common.{codes, sym, ap, arith, rules}
use Rattle.std.proofs.lemmas.Slice.Eq.{text_from_reads}
use Rattle.bed.specs.Beds.{drive_word}
use Rattle.bed.proofs.kind.DriveKindFromWord.from_word.Goals as goal

pub returns-in-pulse : goal.returns-in-pulse
returns-in-pulse c = sym (ap drive_word (text_from_reads c.args.word.now (codes "pulse") (omega arith) (search rules)))

pub returns-in-phase : goal.returns-in-phase
returns-in-phase c = sym (ap drive_word (text_from_reads c.args.word.now (codes "phase") (omega arith) (search rules)))
