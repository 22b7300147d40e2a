mod MixedLaw
