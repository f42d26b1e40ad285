-- No words ask for two commands.
use Rattle.std.specs.Prelude.{◌≡◌, ℕ, List, None}
use Rattle.command_words.specs.Asked.{bench_asked, check_asked, deorder_asked, improve_asked, replay_asked}

pub record AsksImproveAlone (words : List (List ℕ)) : Type 0 where
  pub check : check_asked words ≡ None
  pub deorder : deorder_asked words ≡ None
  pub replay : replay_asked words ≡ None
  pub bench : bench_asked words ≡ None

pub record AsksCheckAlone (words : List (List ℕ)) : Type 0 where
  pub improve : improve_asked words ≡ None
  pub deorder : deorder_asked words ≡ None
  pub replay : replay_asked words ≡ None
  pub bench : bench_asked words ≡ None

pub record AsksDeorderAlone (words : List (List ℕ)) : Type 0 where
  pub improve : improve_asked words ≡ None
  pub check : check_asked words ≡ None
  pub replay : replay_asked words ≡ None
  pub bench : bench_asked words ≡ None

pub record AsksReplayAlone (words : List (List ℕ)) : Type 0 where
  pub improve : improve_asked words ≡ None
  pub check : check_asked words ≡ None
  pub deorder : deorder_asked words ≡ None
  pub bench : bench_asked words ≡ None

pub record AsksBenchAlone (words : List (List ℕ)) : Type 0 where
  pub improve : improve_asked words ≡ None
  pub check : check_asked words ≡ None
  pub deorder : deorder_asked words ≡ None
  pub replay : replay_asked words ≡ None
