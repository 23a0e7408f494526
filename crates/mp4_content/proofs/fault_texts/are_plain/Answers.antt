use Rattle.std.proofs.Common.{rules, tests}
use Rattle.std.proofs.lemmas.Iterator.{YieldsList-from_slice}
use Rattle.std.proofs.lemmas.Iterator.Search.{all_from_yields_List}
use Rattle.mp4_content.specs.FaultText.{is_plain}
use Rattle.mp4_content.proofs.fault_texts.are_plain.Goals as goal

pub returns : goal.returns
returns c =
    all_from_yields_List is_plain _ _ _ c.all.ensures.ran (YieldsList-from_slice _ c.iter.ensures.rest)
    (λ x b q k. search (rules, tests))
