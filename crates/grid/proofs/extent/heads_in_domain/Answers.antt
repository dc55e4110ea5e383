-- `grid::extent::heads_in_domain` meets its contract: the closure tests a head's offset form.
use Rattle.std.proofs.Common.{◌∙◌, ℤ, rules, tests}
use Rattle.std.proofs.lemmas.Iterator.{YieldsList-from_slice}
use Rattle.std.proofs.lemmas.Iterator.Search.{all_from_yields_List}
use Rattle.position.specs.Position.{offset_of, in_domain}
use Rattle.grid.proofs.Heads.{each_in_domain}
use Rattle.grid.proofs.extent.heads_in_domain.Goals as goal

pub returns : goal.returns
returns c =
    let heads = c.args.heads.now in
    all_from_yields_List (λ (head : ℤ). in_domain (offset_of head)) _ _ c.all.result c.all.ensures.ran (YieldsList-from_slice heads cc) (λ x b q k. search (rules, tests))
    ∙ each_in_domain heads
