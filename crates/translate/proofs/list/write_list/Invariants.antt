use Rattle.translate.proofs.Rules.Rows.{ListLoop}
use Rattle.translate.proofs.list.write_list.Given as goal

abbrev pub invariant-loop-i : goal.invariant-loop-i
invariant-loop-i l = ListLoop l.src l.work l.fn.drafts.steps l.fn.drafts.text l.base l.initial.out l.out l.i l.text
