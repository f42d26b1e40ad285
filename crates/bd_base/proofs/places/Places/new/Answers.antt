use Rattle.std.proofs.Common.{◌≡◌, [], refl}
use Rattle.bd_base.proofs.WordLemmas.{bits_zero, nothing}
use Rattle.bd_base.proofs.places.Places.new.Goals as goal

pub returns-in-None : goal.returns-in-None
returns-in-None c =
    let none : c.args.words.now ≡ [] = nothing c.args.words.now c.in-None.ensures.cases in
    rw (bits_zero 0, none) refl
