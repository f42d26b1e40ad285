use Rattle.std.proofs.Common.{◌≤◌, sym, ap, ◌∙◌, subst, length}
use Rattle.bd_tree.specs.Tree.{depth_of, ids_of, greatest, listed_of, nodes_of, steps_of}
use Rattle.bd_tree.specs.WellFormed.{IsWellFormed}
use Rattle.bd_tree.proofs.ChainLemmas.{chain_well_formed, chain_nodes, chain_steps, chain_depth, chain_top, chain_listed}
use Rattle.bd_tree.proofs.tree.Tree.chain.Goals as goal

pub of-requires : goal.of-requires
of-requires c = subst IsWellFormed (sym c.in_ok-chain_root.ensures) (chain_well_formed c.args.list.now)

pub returns-clause-nodes : goal.returns-clause-nodes
returns-clause-nodes c = ap nodes_of (c.of.ensures ∙ c.in_ok-chain_root.ensures) ∙ chain_nodes c.args.list.now

pub returns-clause-steps : goal.returns-clause-steps
returns-clause-steps c = ap steps_of (c.of.ensures ∙ c.in_ok-chain_root.ensures) ∙ chain_steps c.args.list.now

pub returns-clause-flat : goal.returns-clause-flat
returns-clause-flat c = subst (λ z. depth_of z ≤ 2) (sym (c.of.ensures ∙ c.in_ok-chain_root.ensures)) (chain_depth c.args.list.now)

pub returns-clause-top : goal.returns-clause-top
returns-clause-top c = subst (λ z. greatest (ids_of z) ≤ length c.args.list.now) (sym (c.of.ensures ∙ c.in_ok-chain_root.ensures)) (chain_top c.args.list.now)

pub returns-clause-listed : goal.returns-clause-listed
returns-clause-listed c = ap listed_of (c.of.ensures ∙ c.in_ok-chain_root.ensures) ∙ chain_listed c.args.list.now
