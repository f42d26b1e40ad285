use Rattle.std.proofs.Common.{◌≡◌, ◌∙◌, true, false, map}
use Rattle.bd_base.specs.Facts.{has}
use Rattle.bd_tree.specs.Tree.{id_of}
use Rattle.bd_tree.proofs.TreeLemmas.{has_named, has_listed}
use Rattle.bd_tree.proofs.convex.Members.has.Goals as goal

pub returns-then-one_has : goal.returns-then-one_has
returns-then-one_has c =
    let e : has (map id_of c.self.inside.nodes.now) c.args.id ≡ true = cc in
    let t : c.one_has.result ≡ true = cc in
    t ∙ has_named _ _ _ c.self.view_is c.args.id e

pub returns-else-one_has : goal.returns-else-one_has
returns-else-one_has c =
    let e : has (map id_of c.self.inside.nodes.now) c.args.id ≡ false = cc in
    c.is_listed.ensures ∙ has_listed _ _ _ c.self.view_is c.args.id e
