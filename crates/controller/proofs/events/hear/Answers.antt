use native.Mathlib.Omega.{arith}
use Rattle.image.specs.Image.{core_of}
use mathlib.Core.Path.{sym, ◌∙◌}
use Rattle.registers.specs.declared.Mode.TheVariants.{Normal, Sleep, ListenOnly}
use Rattle.receiving.proofs.Stored.{unchanged}
use Rattle.controller.proofs.Acts.{heard_by, deaf, plainly, slept}
use Rattle.controller.proofs.events.hear.Goals as goal

pub returns-in-Normal : goal.returns-in-Normal
returns-in-Normal c = rw (heard_by c.args.image.now c.args.frame Normal (sym c.mode_of.ensures ∙ c.in-Normal.is)) c.hear_normal.ensures

pub returns-in-Sleep : goal.returns-in-Sleep
returns-in-Sleep c = rw (heard_by c.args.image.now c.args.frame Sleep (sym c.mode_of.ensures ∙ c.in-Sleep.is)) record { result_value = slept c.args.wanted (core_of c.args.image.now) (rw c.sleep.ensures.value at c.unheard.ensures); became = c.sleep.ensures.became }

pub returns-in-ListenOnly : goal.returns-in-ListenOnly
returns-in-ListenOnly c = rw (heard_by c.args.image.now c.args.frame ListenOnly (sym c.mode_of.ensures ∙ c.in-ListenOnly.is)) c.hear_only.ensures

pub returns-in-Loopback : goal.returns-in-Loopback
returns-in-Loopback c = rw (deaf c.args.image.now c.args.frame c.mode_of.ensures c.in-Loopback.is) record { result_value = plainly c.args.wanted c.unheard-in-Loopback.ensures; became = unchanged c.args.image.now (omega arith) }
