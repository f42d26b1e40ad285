use Rattle.bd_window.proofs.Hulls.{hull_law}
use Rattle.bd_window.proofs.law.hulls_are_shapes.Goals as goal

pub returns : goal.returns
returns c own kids order i j a b apart ei ej = hull_law own kids order i j a b apart ei ej
