use Rattle.std.proofs.Common.{◌≡◌, ◌++◌, List, length, map, true, sym, ap, ◌∙◌, subst, arith}
use Rattle.std.specs.List.{enumerate_from}
use Rattle.std.specs.Option.{is_some}
use Rattle.bd_base.specs.Pairs.{total_order}
use Rattle.bd_merge.proofs.CountLemmas.{few_places}
use Rattle.bd_merge.proofs.TurnLemmas.{merged_in_turn, merged_listed, total_where_told}
use Rattle.bd_merge.specs.Merged.{fronts, backs, merged_places, merged_order}
use Rattle.bd_merge.specs.Starts.{AreListed}
use Rattle.bd_merge.specs.declared.merging.Place.{Place}
use Rattle.bd_merge.specs.declared.merging.Place.TheVariants.{Front, New, Back}
use Rattle.bd_merge.proofs.merging.new_block.Goals as goal

pub new_order-requires : goal.new_order-requires
new_order-requires c =
    let window = c.args.window.now in
    let order = c.args.order.now in
    let kids = c.args.kids.now in
    let all = enumerate_from 0 kids in
    let news : List Place = map (λ a. New) c.args.list.now in
    let behind : List Place = map (λ k. Back k.0) (backs window order all) in
    let ahead : List Place = map (λ k. Front k.0) (fronts window order all) in
    let places : c.deref.result.now ≡ merged_places window c.args.list.now order all =
    c.deref.ensures.value
    ∙ c.in_ok-put_backs.ensures.places
    ∙ ap (λ (z : List Place). z ++ behind) (c.in_ok-put_steps.ensures.places ∙ ap (λ (z : List Place). z ++ news) (c.in_ok-put_fronts.ensures.places ∙ ap (λ (z : List Place). z ++ ahead) c.new-places.ensures.items)) in
    record {
      few = omega (arith, few_places window c.args.list.now order kids, ap (λ (z : List Place). length z) places, c.requires.few);
      listed = subst (AreListed (length kids)) (sym places) (merged_listed window c.args.list.now order kids);
      order = c.requires.order;
      all = λ told.
          let known : is_some c.front_end-end.result ≡ true = sym c.is_some.ensures ∙ told in
          let total : order ≡ total_order (length kids) = total_where_told window order kids c.front_end-end.result c.front_end-end.ensures known in
          subst (λ (z : List Place). merged_order order z ≡ total_order (length z)) (sym places) (merged_in_turn window c.args.list.now order kids total);
    }
