use Rattle.std.proofs.Common.{◌<◌, ◌≤◌, [], ◌∷◌, length, get_or, refl, arith}
use Rattle.bd_ground.proofs.IndexLemmas.{seen, put_head, put_place, put_all_places, get_is}
use Rattle.bd_ground.proofs.index.put_parts.Goals as goal

pub loop-k-init : goal.loop-k-init
loop-k-init c = (
  c.in_ok-put.ensures.even,
  put_head c.args.keys.now c.put.new.keys (seen c.args.rows.now.items) (seen c.put.new.rows.items) c.args.head c.args.objects.now (c.args.head ∷ []) c.args.g.now c.in_ok-put.ensures.put refl c.requires.parts,
)

pub loop-k-preserved : goal.loop-k-preserved
loop-k-preserved c =
    let lt : c.loop-k.k < length c.args.objects.now = omega arith in (
      c.in_ok-put-2.ensures.even,
      put_place c.args.keys.now c.loop-k.keys c.put-in-loop-k.new.keys (seen c.args.rows.now.items) (seen c.loop-k.rows.items) (seen c.put-in-loop-k.new.rows.items) c.args.head c.args.objects.now (c.args.head ∷ c.loop-k.k ∷ get_or c.args.objects.now c.loop-k.k 0 ∷ []) c.args.g.now c.loop-k.k (get_or c.args.objects.now c.loop-k.k 0)
          c.loop-k.invariant.1 c.in_ok-put-2.ensures.put refl c.requires.parts (get_is c.args.objects.now c.loop-k.k lt),
    )

pub returns-clause-found : goal.returns-clause-found
returns-clause-found c =
    put_all_places c.args.keys.now c.loop-k.keys (seen c.args.rows.now.items) (seen c.loop-k.rows.items) c.args.head c.args.objects.now c.loop-k.k c.loop-k.invariant.1 (let le : length c.args.objects.now ≤ c.loop-k.k = omega arith in le)
