-- Kids that run in turn, each before all later ones: their effects and first fault, by one pass.
use Rattle.std.specs.Prelude.{ℕ, not, List, [], ◌∷◌, filter, find, Option, None}
use Rattle.std.specs.Option.{option_or}
use Rattle.bd_base.specs.Facts.{has, minus, plus}
use Rattle.bd_links.specs.declared.parts.Effects.{Effects}
use Rattle.bd_links.specs.Child.{Child}
use Rattle.bd_links.specs.declared.parts.Fault.{Fault}
use Rattle.bd_links.specs.Faults.{inside}

abbrev pub no_effects : Effects
no_effects = record { need = []; add = []; del = [] }

-- the effects of what ran so far and of one that follows it: the last that adds or deletes a fact tells
abbrev pub turn : Effects → Effects → Effects
turn e k = record {
  need = plus e.need (filter (λ p. not (has e.add p)) k.need);
  add = plus (minus e.add k.del) k.add;
  del = minus (plus e.del k.del) k.add;
}

abbrev pub turns : Effects → List Child → Effects
turns e [] = e
turns e (k ∷ ks) = turns (turn e k.effects) ks

-- the first kid that needs a fact which was deleted last, with the least such fact
abbrev pub turns_fault : ℕ → Effects → List Child → Option Fault
turns_fault block e [] = None
turns_fault block e (k ∷ ks) = option_or (inside block k.id (find (has e.del) k.effects.need)) (turns_fault block (turn e k.effects) ks)
