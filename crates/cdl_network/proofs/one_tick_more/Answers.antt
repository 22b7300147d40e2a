use Rattle.std.proofs.Common.{[]}
use Rattle.std.proofs.Common.{ap}
use Rattle.cdl_network.specs.Ticks.{history}
use Rattle.cdl_network.proofs.Solving.{after_more, has_meanings, past_of, runs_on, runs_off, calm, same_answer, same_past}
use Rattle.cdl_network.proofs.one_tick_more.Goals as goal

pub returns-clause-on : goal.returns-clause-on
returns-clause-on g c n ts vs t v r m z = runs_on n ts vs t v r m z

pub returns-clause-off : goal.returns-clause-off
returns-clause-off g c n top ts vs t v i d p r m z ws f = runs_off n top ts vs t v i d p r m z ws f

pub returns-clause-direct_only : goal.returns-clause-direct_only
returns-clause-direct_only g c n past now v w i u z e f = same_answer n past past now v w i u (same_past n past) z e f

pub returns-clause-calm : goal.returns-clause-calm
returns-clause-calm g c n top past t v d p w f z x i = calm n top past t v d p w f z x i

pub returns-clause-meanings : goal.returns-clause-meanings
returns-clause-meanings g c n top ts vs i d p a r m e = has_meanings n top _ i d p (past_of n ts [] vs a tt r.0 r.1) m e

pub returns-clause-history : goal.returns-clause-history
returns-clause-history g c n ts vs t v i r = ap (λ q. history n q i) (after_more n ts [] vs t v r.0 r.1)
