use Rattle.write.proofs.Lays.{RowsLoop}
use Rattle.write.proofs.chosen.Chosen.put_rows.Given as goal

abbrev pub invariant-loop-i : goal.invariant-loop-i
invariant-loop-i l = RowsLoop l.texts.list.now l.texts.table.now l.self l.up l.base l.initial.out l.out l.i l.at l.pos
