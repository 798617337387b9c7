use Rattle.mind_top.proofs.words.drawn_in.Goals as goal

pub returns-in-None : goal.returns-in-None
returns-in-None c = λ n m count seed. c.in-None.ensures.number n count

pub returns-in-None-number_in : goal.returns-in-None-number_in
returns-in-None-number_in c = λ n m count seed. c.in-None-number_in.ensures.number m seed
