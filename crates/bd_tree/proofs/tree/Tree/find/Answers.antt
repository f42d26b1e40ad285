use Rattle.std.proofs.Common.{◌≡◌, sym, ◌∙◌, ap}
use Rattle.std.specs.Option.{is_some}
use Rattle.bd_base.specs.Facts.{has}
use Rattle.bd_tree.specs.Tree.{ids_of, find_in}
use Rattle.bd_tree.proofs.TreeLemmas.{missed}
use Rattle.bd_tree.proofs.tree.Tree.find.Goals as goal

pub returns-clause-missing : goal.returns-clause-missing
returns-clause-missing c =
    let same : is_some c.find.result ≡ has (ids_of c.args.self.now) c.args.id =
    missed c.args.id c.args.self.now c.find.result (c.find.ensures ∙ ap (find_in c.args.id) c.self.view_is) in
    ((λ e. sym same ∙ e), (λ e. same ∙ e))
