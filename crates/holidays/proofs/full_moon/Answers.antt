-- `full_moon` meets its contract.
use Rattle.holidays.proofs.Moons.{moon_early, moon_late}
use Rattle.holidays.proofs.full_moon.Goals as goal

pub returns-then-moon-lt20 : goal.returns-then-moon-lt20
returns-then-moon-lt20 c =
    moon_early c.args.year.number c.args.year.taken.from _ _ c.first_of_march-march.ensures c.epact-moon.ensures c.if-moon-lt20.true

pub returns : goal.returns
returns c =
    moon_late c.args.year.number c.args.year.taken.from _ _ c.first_of_march-march.ensures c.epact-moon.ensures c.if-moon-lt20.false
