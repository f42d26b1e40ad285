use Rattle.std.proofs.Common.{◌∙◌, refl}
use Rattle.plan_core.specs.Core.{is_replacement}
use Rattle.bd_workers.proofs.WalkLemmas.{adds_same, true_as, walks_here, walks_on, walks_step}
use Rattle.bd_workers.proofs.rounds.put_pieces.Goals as goal

pub loop-window-init : goal.loop-window-init
loop-window-init g c = record {
  same = refl;
  kept = c.requires.kept;
  walks = walks_here c.args.core.now c.args.view.now.nodes (g.W.Windows.left c.args.windows.now) c.args.pieces.now.items;
}

pub returns-in_err-window-clause-adds : goal.returns-in_err-window-clause-adds
returns-in_err-window-clause-adds g c = adds_same is_replacement c.args.core.now c.loop-window.core c.loop-window.invariant.same

pub returns-clause-adds : goal.returns-clause-adds
returns-clause-adds g c = adds_same is_replacement c.args.core.now c.loop-window.core c.loop-window.invariant.same

pub returns-then-grown-clause-walks : goal.returns-then-grown-clause-walks
returns-then-grown-clause-walks g c =
    walks_step is_replacement c.args.core.now c.loop-window.core c.step.new.core c.args.view.now.nodes
    (g.W.Windows.left c.args.windows.now) (g.W.Windows.left c.loop-window.windows) (g.W.Windows.left c.give.new.self)
    c.args.pieces.now.items c.loop-window.pieces.items c.push.new.self.items c.in_ok-window.field-0 c.in-Some.window c.in_ok-piece.piece
    c.loop-window.invariant.same c.loop-window.invariant.walks c.in_ok-piece.ensures.adds c.in_ok-window.ensures c.in-Some.is c.in_ok-piece.ensures.piece c.in_ok-push.ensures.items

pub loop-window-preserved : goal.loop-window-preserved
loop-window-preserved g c =
    let stays = c.in_ok-piece.ensures.same c.if-grown.false ∙ c.loop-window.invariant.same in
    record {
      same = stays;
      kept = true_as c.args.view.now.nodes _ c.loop-window.core c.args.core.now c.loop-window.invariant.same c.in_ok-piece.ensures.kept;
      walks = walks_on is_replacement c.args.core.now c.loop-window.core c.step.new.core c.args.view.now.nodes
          (g.W.Windows.left c.args.windows.now) (g.W.Windows.left c.loop-window.windows) (g.W.Windows.left c.give.new.self)
          c.args.pieces.now.items c.loop-window.pieces.items c.push.new.self.items c.in_ok-window.field-0 c.in-Some.window c.in_ok-piece.piece
          c.loop-window.invariant.same c.loop-window.invariant.walks c.in_ok-piece.ensures.adds c.in_ok-window.ensures c.in-Some.is c.in_ok-piece.ensures.piece c.in_ok-push.ensures.items stays;
    }
