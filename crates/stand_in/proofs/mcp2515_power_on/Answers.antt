use mathlib.Core.Path.{refl, ◌∙◌}
use borrow.Author.Tests.{lt-ltb, le-ltb}
use lib.ListN.{length}
use Rattle.image.specs.Image.{image_size}
use Rattle.mcp2515.proofs.Images.{power_on_chip, power_on_is_chip}
use Rattle.stand_in.specs.StandIn.{power_result, power_bytes}
use Rattle.stand_in.proofs.Calls.{told}
use Rattle.stand_in.proofs.mcp2515_power_on.Goals as goal

pub returns-in_default : goal.returns-in_default
unfolding power_result power_bytes
returns-in_default c =
    let t = lt-ltb (length c.args.chip.now) image_size c.in_default.ensures.cases in
    record { result = told (record { sfits = c.refused.type_inv }) c.refused.ensures ∙ rw t; bytes = (rw t, (power_on_is_chip, power_on_chip)) }

pub returns : goal.returns
unfolding power_result power_bytes
returns c =
    let t = le-ltb (length c.args.chip.now) image_size (c.in-Some.ensures.variant.0 refl) in
    record { result = rw t; bytes = (rw (t, c.power_on.ensures), (power_on_is_chip, power_on_chip)) }
