use Rattle.std.proofs.Common.{codes, sym, ap, arith, rules}
use Rattle.std.proofs.lemmas.Slice.Eq.{text_from_reads}
use Rattle.script.specs.Commands.{command_word}
use Rattle.script.proofs.command.CommandFromWord.from_word.Goals as goal

pub returns-in-tripped : goal.returns-in-tripped
returns-in-tripped c = sym (ap command_word (text_from_reads c.args.word.now (codes "tripped") (omega arith) (search rules)))

pub returns-in-setup : goal.returns-in-setup
returns-in-setup c = sym (ap command_word (text_from_reads c.args.word.now (codes "setup") (omega arith) (search rules)))

pub returns-in-block : goal.returns-in-block
returns-in-block c = sym (ap command_word (text_from_reads c.args.word.now (codes "block") (omega arith) (search rules)))

pub returns-in-event : goal.returns-in-event
returns-in-event c = sym (ap command_word (text_from_reads c.args.word.now (codes "event") (omega arith) (search rules)))

pub returns-in-tick : goal.returns-in-tick
returns-in-tick c = sym (ap command_word (text_from_reads c.args.word.now (codes "tick") (omega arith) (search rules)))

pub returns-in-reading : goal.returns-in-reading
returns-in-reading c = sym (ap command_word (text_from_reads c.args.word.now (codes "reading") (omega arith) (search rules)))
