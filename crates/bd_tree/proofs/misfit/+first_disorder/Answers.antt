use Rattle.std.proofs.Common.{arith}
use Rattle.bd_tree.proofs.BoundLemmas.{kids_within, block_nodes}
use Rattle.bd_tree.proofs.MisfitLemmas.{own_told, own_fits}
use Rattle.bd_tree.proofs.misfit.+first_disorder.Goals as goal

pub overflow_cast-len : goal.overflow_cast-len
overflow_cast-len t c =
    omega (arith, c.requires, c.len.ensures, kids_within c.args.node.now c.in-Block.id c.in-Block.kids c.in-Block.order c.in-Block.is)

pub returns-in-Some : goal.returns-in-Some
returns-in-Some t c = own_told c.args.node.now c.in-Block.id c.in-Some.i c.in-Some.j c.in-Block.kids c.in-Block.order c.len.result c.in_ok-i-in-Block.field-0 c.in-Block.is c.len.ensures c.in_ok-i-in-Block.ensures c.in-Some.is

pub loop-kid-init : goal.loop-kid-init
loop-kid-init t c = record {
  told = own_fits c.args.node.now c.in-Block.id c.in-Block.kids _ c.in-Block.order c.len.result c.in_ok-i-in-Block.field-0 c.in-Block.is c.as_slice-kid-items.ensures c.len.ensures c.in_ok-i-in-Block.ensures c.in-None.is;
  small = block_nodes c.args.node.now c.in-Block.id c.in-Block.kids _ c.in-Block.order c.in-Block.is c.as_slice-kid-items.ensures c.requires;
}
