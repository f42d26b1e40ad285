-- Inner: serves this crate's own proofs alone.
use Rattle.std.specs.Prelude.{Some}
use Rattle.bd_links.specs.declared.parts.Effects.{Effects}
use Rattle.bd_links.specs.declared.parts.Sets.{Sets}
use Rattle.bd_links.specs.declared.parts.Sets.TheVariants.{Own, Lent}
use Rattle.bd_links.specs.Effects.{step_effects}

-- what a child's sets are: its own, or those of a step's action
abbrev pub effects_in : Sets → Effects
effects_in (Own effects) = effects
effects_in (Lent action) = step_effects (Some action.now)
