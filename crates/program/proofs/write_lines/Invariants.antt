use Rattle.std.proofs.Common.{◌-◌, length}
use Rattle.output.proofs.Lines.{LiningWith}
use Rattle.program.proofs.write_lines.Given as goal

abbrev pub invariant-loop-at : goal.invariant-loop-at
invariant-loop-at l =
    LiningWith l.words.text.now l.words.table.now l.words.n l.letters l.input l.start l.fn.out l.place l.at l.end l.out l.first_word l.second_word

abbrev pub decreases-loop-at : goal.decreases-loop-at
decreases-loop-at l = length l.input - l.at
