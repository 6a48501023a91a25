-- `run::put::replace` meets its contract. Assumes nothing.
use Prim.Native.Nat.{◌+◌}
use native.Mathlib.Omega.{arith}
use mathlib.Core.Path.{refl, ap}
use Rattle.run.proofs.Putting.{replaced}
use Rattle.run.proofs.put.replace.Goals as goal

pub returns : goal.returns
returns c = let a = c.args in let p = c.requires in (refl, λ t u. replaced t u a.w.now a.new.rows.bytes.now a.size.rows a.new.rows.count a.i a.e a.size.few a.new.few p.0 p.1 (omega arith) a.new.room c.splice.new.w a.size.text c.text_of-old.result (a.size.text + c.text_in.result) c.saturating_sub.result _ (c.text_of-old.ensures t u) (ap (λ k. a.size.text + k) (c.text_in.ensures.1 t u)) c.splice.ensures c.saturating_sub.ensures refl)
