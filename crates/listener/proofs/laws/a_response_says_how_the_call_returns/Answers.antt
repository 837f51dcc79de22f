use Rattle.listener.proofs.Backs.{back-again, response-again, back-fits}
use Rattle.listener.proofs.laws.a_response_says_how_the_call_returns.Goals as goal

pub returns-clause-back : goal.returns-clause-back
returns-clause-back c id back h = back-again id back h

pub returns-clause-response : goal.returns-clause-response
returns-clause-response c resp h p = response-again resp h p

pub returns-clause-fits : goal.returns-clause-fits
returns-clause-fits c resp h l = back-fits resp h l
