use Rattle.std.proofs.Common.{◌++◌, ◌∙◌, ap, codes, count_by, length}
use Rattle.run_texts.specs.Texts.{is_exhausted, is_found, is_spent, newline, numbered}
use Rattle.run_texts.proofs.TextLemmas.{five_behind}
use Rattle.run_texts.proofs.summary.push_windows.Goals as goal

pub returns : goal.returns
returns c =
    let pieces = c.args.pieces.now in
    five_behind c.args.text.now.items (numbered (codes "; windows ") (length pieces)) (numbered (codes " exhausted ") (count_by is_exhausted pieces))
    (numbered (codes " spent ") (count_by is_spent pieces)) (numbered (codes " long ") (count_by is_found pieces)) newline
    c.push_count.new.text.items c.push_count-2.new.text.items c.push_count-3.new.text.items c.push_count-4.new.text.items c.extend_from_slice.new.self.items
    c.in_ok-push_count.ensures
    (c.in_ok-push_count-2.ensures ∙ ap (λ n. c.push_count.new.text.items ++ numbered (codes " exhausted ") n) c.exhausted.ensures)
    (c.in_ok-push_count-3.ensures ∙ ap (λ n. c.push_count-2.new.text.items ++ numbered (codes " spent ") n) c.spent.ensures)
    (c.in_ok-push_count-4.ensures ∙ ap (λ n. c.push_count-3.new.text.items ++ numbered (codes " long ") n) c.found.ensures)
    c.in_ok-extend_from_slice.ensures.items
