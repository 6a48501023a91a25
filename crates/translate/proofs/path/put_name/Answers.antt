-- `put_name`: the length, then the bytes. Assumes nothing.
use native.Mathlib.Omega.{arith}
use Rattle.translate.proofs.Rules.Paths.{name_size, name_put}
use Rattle.translate.proofs.path.put_name.Goals as goal

pub bounds-out-to : goal.bounds-out-to
bounds-out-to c = omega (arith, name_size c.args.name.now, c.requires.room.room)

pub returns : goal.returns
returns c = name_put c.requires c.copy.ensures
